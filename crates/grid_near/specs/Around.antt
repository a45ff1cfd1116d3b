-- How the iterators around a cell count their steps.
use Rattle.std.specs.Prelude.{◌≡◌, ℕ, zero, suc, ◌+◌, ◌-◌, ◌*◌, ◌/◌, ◌%◌, ◌^◌, ◌<◌, ◌≤◌, ◌&&◌, Bool, true, false, cond, nat_lt, Option, None, Some, List, [], ◌∷◌, drop, length, slice_get, MatchOption, filter_map, option_and_then}
use Rattle.std.specs.Borrow.{Bor}
use Rattle.grid_base.specs.Table.{tabulate}
use Rattle.grid_near.specs.declared.steps.Connectivity.{Connectivity}
use Rattle.grid_near.specs.declared.steps.Connectivity.TheVariants.{Four, Eight}
use Rattle.grid_near.specs.declared.board.Edges.{Edges}
use Rattle.grid_near.specs.declared.board.Edges.TheVariants.{Open, Joined}
use Rattle.grid_near.specs.Neighbors.{step_count, around8, around4, before, around_before, around_after, both, cell_at, placed}

-- the cell in row r and column c of a size, where `place_of` says where each cell is
abbrev pub cell_by : {T : Type 0} → List T → ℕ × ℕ → (ℕ → ℕ → ℕ) → ℕ → ℕ → Option T
cell_by cells size place_of r c =
    cond (nat_lt r size.0 && nat_lt c size.1) (slice_get cells (place_of r c)) None

-- the place of the cell in row r and column c, where those of a column are strides.0 apart, and
-- those of a row strides.1
abbrev pub by_strides : ℕ × ℕ → ℕ → ℕ → ℕ
by_strides strides r c = r * strides.0 + c * strides.1

-- the same from a place on, modulo 2 ^ 64, so that a stride may go back
abbrev pub by_steps : ℕ → ℕ × ℕ → ℕ → ℕ → ℕ
by_steps start strides r c = (start + r * strides.0 + c * strides.1) % 2 ^ 64

abbrev pub strided_cell : {T : Type 0} → List T → ℕ × ℕ → ℕ × ℕ → ℕ → ℕ → Option T
strided_cell cells size strides = cell_by cells size (by_strides strides)

-- the table of these cells
abbrev pub strided_table : {T : Type 0} → List T → ℕ × ℕ → ℕ → ℕ × ℕ → List (List T)
strided_table cells size start strides =
    tabulate size.0 size.1 (λ r c. slice_get cells (by_steps start strides r c))

-- each of them is there
abbrev pub HoldsCells : {T : Type 0} → List T → ℕ × ℕ → (ℕ → ℕ → ℕ) → Type 0
HoldsCells cells size place_of =
    (r c : ℕ) → r < size.0 → c < size.1 → place_of r c < length cells

-- the index of the cell of step k among the nine cells of three rows, row by row
abbrev pub box : Connectivity → ℕ → ℕ
box Four k = 2 * k + 1
box Eight k = k + k / 4

-- k - 1, if there is one, k, or k + 1
abbrev pub beside : ℕ → ℕ → Option ℕ
beside k zero = before k
beside k (suc zero) = Some k
beside k (suc (suc _)) = Some (k + 1)

-- the same modulo n
abbrev pub around : ℕ → ℕ → ℕ → ℕ
around n k zero = around_before n k
around n k (suc zero) = k
around n k (suc (suc _)) = around_after n k

-- by what the edges do
abbrev pub side : Edges → ℕ → ℕ → ℕ → Option ℕ
side Open n k i = beside k i
side Joined n k i = Some (around n k i)

-- the positions of the steps around (r, c)
abbrev pub positions : Edges → ℕ × ℕ → Connectivity → ℕ × ℕ → List (Option ℕ × Option ℕ)
positions e size Four at = around4 (side e size.0 at.0 0) (side e size.0 at.0 1)
    (side e size.0 at.0 2) (side e size.1 at.1 0) (side e size.1 at.1 1) (side e size.1 at.1 2)
positions e size Eight at = around8 (side e size.0 at.0 0) (side e size.0 at.0 1)
    (side e size.0 at.0 2) (side e size.1 at.1 0) (side e size.1 at.1 1) (side e size.1 at.1 2)

-- the position of step k
abbrev pub position_of : Edges → ℕ × ℕ → Connectivity → ℕ × ℕ → ℕ → Option ℕ × Option ℕ
position_of e size connectivity at k =
    (side e size.0 at.0 (box connectivity k / 3), side e size.1 at.1 (box connectivity k % 3))

-- the position, if it is within a size
abbrev pub if_within : ℕ × ℕ → Option (ℕ × ℕ) → Option (ℕ × ℕ)
if_within size p =
    option_and_then (λ q. cond (nat_lt q.0 size.0 && nat_lt q.1 size.1) (Some q) None) p

-- the cells from step k on
abbrev pub cells_from : {T : Type 0} → (ℕ → ℕ → Option T) → Edges → ℕ × ℕ → Connectivity → ℕ × ℕ → ℕ
    → List ((ℕ × ℕ) × T)
cells_from f e size connectivity at k =
    filter_map (cell_at f) (drop k (positions e size connectivity at))

-- the positions from step k on that are within a size
abbrev pub positions_from : ℕ × ℕ → Connectivity → ℕ × ℕ → ℕ → List (ℕ × ℕ)
positions_from size connectivity at k = filter_map (λ p. if_within size (both p))
    (drop k (positions Open size connectivity at))

-- the cell in row i and column j of the nine cells around a position is within the size
pub record IsThere (size at : ℕ × ℕ) (i j : ℕ) : Type 0 where
  pub above : 0 < at.0 + i
  pub below : at.0 + i ≤ size.0
  pub before : 0 < at.1 + j
  pub after : at.1 + j ≤ size.1

-- a search from step k on found the first of the cells, or that there is none, and went on to a
-- later step
abbrev pub FindsFirst : {T : Type 0} → (ℕ → ℕ → Option T) → ℕ × ℕ → Connectivity → ℕ × ℕ → ℕ
    → ℕ × Option ((ℕ × ℕ) × Bor T) → Type 0
FindsFirst f size connectivity at k found =
    let left : ℕ → List _ = cells_from f Open size connectivity at in
    MatchOption found.1 ((left k ≡ []) × (left found.0 ≡ []))
    (λ x. left k ≡ placed x ∷ left found.0)

-- the cell of step k is the first of those that are left, where edges meet
abbrev pub IsFirst : {T : Type 0} → (ℕ → ℕ → Option T) → ℕ × ℕ → Connectivity → ℕ × ℕ → ℕ
    → (ℕ × ℕ) × Bor T → Type 0
IsFirst f size connectivity at k found =
    cells_from f Joined size connectivity at k
    ≡ placed found ∷ cells_from f Joined size connectivity at (k + 1)

-- all cells around a position are within the size
pub record IsInner (size at : ℕ × ℕ) : Type 0 where
  pub above : 0 < at.0
  pub before : 0 < at.1
  pub below : at.0 + 1 < size.0
  pub after : at.1 + 1 < size.1

-- how many steps an iterator has done at its start: all, where edges meet, around a position out of
-- range
abbrev pub start_of : Edges → ℕ × ℕ → Connectivity → ℕ × ℕ → ℕ
start_of Open size connectivity at = 0
start_of Joined size connectivity at =
    cond (nat_lt at.0 size.0 && nat_lt at.1 size.1) 0 (step_count connectivity)

-- the step that an iterator goes on with
abbrev pub next_step : Edges → Bool → ℕ → ℕ → ℕ
next_step Open inner passed tried = cond inner passed tried
next_step Joined inner passed tried = passed

-- what holds of an iterator around the cell at a position, of which `passed` steps are done, and,
-- at an edge that is open, `tried`
pub record IsAround {T : Type 0} (cells : List T) (size : ℕ × ℕ) (start : ℕ) (strides at : ℕ × ℕ)
    (connectivity : Connectivity) (edges : Edges) (first : ℕ) (inner : Bool) (passed tried : ℕ)
    : Type 0 where
  pub holds : HoldsCells cells size (by_steps start strides)
  pub inside : inner ≡ true → IsInner size at
  pub first_is : inner ≡ true → first ≡ by_steps start strides (at.0 - 1) (at.1 - 1)
  pub behind : edges ≡ Open → inner ≡ false → passed ≤ tried
  pub row_in : edges ≡ Joined → passed < step_count connectivity → at.0 < size.0
  pub col_in : edges ≡ Joined → passed < step_count connectivity → at.1 < size.1
