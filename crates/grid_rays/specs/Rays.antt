-- The cells of a table from a position on in a direction.
use Rattle.std.specs.Prelude.{◌≡◌, ℕ, zero, suc, ◌+◌, ◌*◌, ◌<◌, ◌&&◌, cond, nat_lt, Option, None, Some, List, [], length, slice_get}
use Rattle.grid_base.specs.Table.{cells_by, row_count, col_count, cell, InRange}
use Rattle.grid_base.specs.IndexedIterators.{IsCellAt, GivesCells}
use Rattle.grid_near.specs.declared.direction.Direction.{Direction}
use Rattle.grid_near.specs.Directions.{box_of}
use Rattle.grid_near.specs.Neighbors.{cell_at, CellsInOrder, PositionsInOrder}

-- `to` is k steps from `at` in a direction
abbrev pub IsAhead : Direction → ℕ → ℕ × ℕ → ℕ × ℕ → Type 0
IsAhead way k at to =
    (to.0 + k ≡ at.0 + k * (box_of way).0) × (to.1 + k ≡ at.1 + k * (box_of way).1)

-- the number that is k before n, if there is one
abbrev pub back_by : ℕ → ℕ → Option ℕ
back_by n zero = Some n
back_by zero (suc k) = None
back_by (suc n) (suc k) = back_by n k

-- the number k steps from n, where a step goes from 1 to b
abbrev pub moved : ℕ → ℕ → ℕ → Option ℕ
moved b n k = back_by (n + k * b) k

module _ {T : Type 0} where
  -- the cell k steps from `at`, with its position, where a step goes from (1, 1) to `step`
  abbrev pub cell_ahead : List (List T) → ℕ × ℕ → ℕ × ℕ → ℕ → Option ((ℕ × ℕ) × T)
  cell_ahead t step at k = cell_at (cell t) (moved step.0 at.0 k, moved step.1 at.1 k)

  -- the cells beyond position `at` of the table t in a direction, with their positions, up to the
  -- edge: none is more steps away than there are rows and columns; and none where `at` is out of
  -- range
  unfoldable pub ray : List (List T) → Direction → ℕ × ℕ → List ((ℕ × ℕ) × T)
  ray t way at =
      cond (nat_lt at.0 (row_count t) && nat_lt at.1 (col_count t))
      (cells_by (row_count t + col_count t) (λ k. cell_ahead t (box_of way) at (k + 1))) []

  -- item k is the cell k + 1 steps on, and every cell that way is an item
  pub record IsRay (t : List (List T)) (way : Direction) (at : ℕ × ℕ) (cells : List ((ℕ × ℕ) × T)) :
      Type 0 where
    pub ahead : (k : ℕ) (x : (ℕ × ℕ) × T) → slice_get cells k ≡ Some x → IsAhead way (k + 1) at x.0
    pub there : (k : ℕ) (x : (ℕ × ℕ) × T) → slice_get cells k ≡ Some x → IsCellAt t x.0 x.1
    pub all : (k : ℕ) (to : ℕ × ℕ) → InRange t at.0 at.1 → IsAhead way (k + 1) at to
        → InRange t to.0 to.1
        → k < length cells
    pub none : 0 < length cells → InRange t at.0 at.1

  -- an iterator gives the cells of a ray
  abbrev pub GivesRay : List (List T) → Direction → ℕ × ℕ → List ((ℕ × ℕ) × T) → Type 0
  GivesRay t way at it = (it ≡ ray t way at) × GivesCells t it × CellsInOrder T × PositionsInOrder T
