-- The cells around a cell.
use Rattle.std.specs.Prelude.{◌≡◌, ℕ, zero, suc, ◌+◌, ◌-◌, ◌%◌, ◌&&◌, true, cond, nat_lt, Option, None, Some, List, [], ◌∷◌, map, filter_map, option_map, option_and_then}
use Rattle.std.specs.Iterator.{YieldsFirstBy}
use Rattle.std.specs.Iterator.Runs.{EveryRun, ItemsMapTo}
use Rattle.std.specs.Borrow.{Bor}
use Rattle.grid_near.specs.declared.steps.Connectivity.{Connectivity}
use Rattle.grid_near.specs.declared.steps.Connectivity.TheVariants.{Four, Eight}
use Rattle.grid_near.specs.declared.board.Edges.{Edges}
use Rattle.grid_near.specs.declared.board.Edges.TheVariants.{Open, Joined}
use Rattle.grid_base.specs.Table.{row_count, col_count, cell}

-- how many cells there are around a cell at most: the four that share a side with it, or all eight
abbrev pub step_count : Connectivity → ℕ
step_count Four = 4
step_count Eight = 8

-- the eight around the middle of three rows and three columns, row by row
abbrev pub around8 : {X : Type 0} → X → X → X → X → X → X → List (X × X)
around8 up row down left col right =
    (up, left) ∷ (up, col) ∷ (up, right) ∷ (row, left) ∷ (row, right) ∷ (down, left) ∷ (down, col)
    ∷ (down, right) ∷ []

-- the four of them that share a side with the middle
abbrev pub around4 : {X : Type 0} → X → X → X → X → X → X → List (X × X)
around4 up row down left col right = (up, col) ∷ (row, left) ∷ (row, right) ∷ (down, col) ∷ []

-- k - 1, which 0 doesn't have
abbrev pub before : ℕ → Option ℕ
before zero = None
before (suc k) = Some k

-- k - 1 and k + 1, modulo n: the last index comes before 0, and 0 after the last
abbrev pub around_before : ℕ → ℕ → ℕ
around_before n k = (k + n - 1) % n

abbrev pub around_after : ℕ → ℕ → ℕ
around_after n k = (k + 1) % n

-- both indices, if both are there
abbrev pub both : Option ℕ × Option ℕ → Option (ℕ × ℕ)
both p = option_and_then (λ r. option_map (λ c. (r, c)) p.1) p.0

module _ {T : Type 0} where
  -- the cell at a position, with the position, where f says which cell is in a row and a column
  abbrev pub cell_at : (ℕ → ℕ → Option T) → Option ℕ × Option ℕ → Option ((ℕ × ℕ) × T)
  cell_at f p = option_and_then (λ q. option_map (λ x. (q, x)) (f q.0 q.1)) (both p)

  -- the cells around (r, c) that the table has, row by row, with their positions
  unfoldable pub neighbors8 : List (List T) → ℕ → ℕ → List ((ℕ × ℕ) × T)
  neighbors8 t r c =
      filter_map (cell_at (cell t)) (around8 (before r) (Some r) (Some (r + 1)) (before c) (Some c)
      (Some (c + 1)))

  unfoldable pub neighbors4 : List (List T) → ℕ → ℕ → List ((ℕ × ℕ) × T)
  neighbors4 t r c =
      filter_map (cell_at (cell t)) (around4 (before r) (Some r) (Some (r + 1)) (before c) (Some c)
      (Some (c + 1)))

  -- the same on a table whose edges meet, and none where (r, c) is out of range
  unfoldable pub wrapped_neighbors8 : List (List T) → ℕ → ℕ → List ((ℕ × ℕ) × T)
  wrapped_neighbors8 t r c =
      let m = row_count t in
      let n = col_count t in
      cond (nat_lt r m && nat_lt c n) (filter_map (cell_at (cell t))
      (around8 (Some (around_before m r)) (Some r) (Some (around_after m r))
      (Some (around_before n c)) (Some c) (Some (around_after n c)))) []

  unfoldable pub wrapped_neighbors4 : List (List T) → ℕ → ℕ → List ((ℕ × ℕ) × T)
  wrapped_neighbors4 t r c =
      let m = row_count t in
      let n = col_count t in
      cond (nat_lt r m && nat_lt c n) (filter_map (cell_at (cell t))
      (around4 (Some (around_before m r)) (Some r) (Some (around_after m r))
      (Some (around_before n c)) (Some c) (Some (around_after n c)))) []

  -- by the connectivity
  abbrev pub neighbors_of : Connectivity → List (List T) → ℕ → ℕ → List ((ℕ × ℕ) × T)
  neighbors_of Four = neighbors4
  neighbors_of Eight = neighbors8

  abbrev pub wrapped_neighbors_of : Connectivity → List (List T) → ℕ → ℕ → List ((ℕ × ℕ) × T)
  wrapped_neighbors_of Four = wrapped_neighbors4
  wrapped_neighbors_of Eight = wrapped_neighbors8

  -- and by what the edges do
  abbrev pub around_of : Connectivity → Edges → List (List T) → ℕ → ℕ → List ((ℕ × ℕ) × T)
  around_of connectivity Open = neighbors_of connectivity
  around_of connectivity Joined = wrapped_neighbors_of connectivity

-- the item that an iterator gives, with the cell in place of the reference to it
abbrev pub placed : {T : Type 0} → (ℕ × ℕ) × Bor T → (ℕ × ℕ) × T
placed item = (item.0, item.1.now)

-- each run of an iterator over cells with their positions gives those that it had left, in order
abbrev pub CellsInOrder : Type 0 → Type 0
CellsInOrder T = EveryRun (YieldsFirstBy placed (λ (rest : List ((ℕ × ℕ) × T)). rest))
    (λ p. ItemsMapTo p placed p.from)

-- the same of the positions alone
abbrev pub PositionsInOrder : Type 0 → Type 0
PositionsInOrder T = EveryRun (YieldsFirstBy placed (λ (rest : List ((ℕ × ℕ) × T)). rest))
    (λ p. p.whole ≡ true → map (λ item. item.0) p.items ≡ map (λ n. n.0) p.from)

-- an iterator around a cell gives these cells, each with its position
abbrev pub GivesNear : {T : Type 0} → List ((ℕ × ℕ) × T) → List ((ℕ × ℕ) × T) → Type 0
GivesNear {T} xs it = (it ≡ xs) × CellsInOrder T × PositionsInOrder T
