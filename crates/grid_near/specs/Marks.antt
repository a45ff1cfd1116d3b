-- Marks of the cells of a line, and of its two neighbors, with a border: what a closure answered at each of them.
use Rattle.std.specs.Prelude.{◌≡◌, ⊤, ℕ, ◌+◌, ◌<◌, ◌≤◌, Bool, false, List, Option, Some, MatchOption, length, slice_get, slice_index_or, take, zip}
use Rattle.grid_base.specs.Prelude.{table_of, positions_of, lines_of, CallableAtCells, ReturnsAtCell, PairsUp}
use Rattle.std.specs.Int.{from_bool}
use denote.Ref.{Bor}
use Rattle.grid_base.specs.declared.order.Order.{Order}
use Rattle.grid_base.specs.declared.order.Order.TheVariants.{RowMajor, ColumnMajor}
use Rattle.grid_near.specs.declared.steps.Connectivity.{Connectivity}
use Rattle.grid_near.specs.declared.steps.Connectivity.TheVariants.{Four, Eight}
use Rattle.grid_near.specs.declared.board.Board.{Board}
use Rattle.grid_near.specs.declared.board.Edges.{Edges}
use Rattle.grid_near.specs.declared.board.Edges.TheVariants.{Open, Joined}
use Rattle.grid_near.specs.Neighbors.{cell_at, around_of}
use Rattle.grid_base.specs.Strides.{strides_of}
use Rattle.grid_near.specs.Around.{side, strided_cell}
use Rattle.grid_near.specs.NearCounts.{MayAnswer, CountsNear, SumsNear}

module _ {T F : Type 0} (b : Board T F) where
  -- the table of a board
  abbrev pub table : List (List T)
  table = table_of b.layout.order b.layout.rows b.layout.cols b.cells.now

  -- its cells, each with its position, in storage order
  abbrev pub placed_cells : List ((ℕ × ℕ) × T)
  placed_cells = zip (positions_of b.layout) b.cells.now

  -- the cells around a cell of a table, by the board's connectivity and its edges
  abbrev pub near : List (List T) → ℕ → ℕ → List ((ℕ × ℕ) × T)
  near = around_of b.connectivity b.edges

-- the row and the column of a place in a line along the storage
abbrev pub spot : Order → Option ℕ → Option ℕ → Option ℕ × Option ℕ
spot RowMajor line k = (line, k)
spot ColumnMajor line k = (k, line)

-- a line is out of a table of n lines
abbrev pub IsBeyond : ℕ → Option ℕ → Type 0
IsBeyond n line = MatchOption line ⊤ (λ l. n ≤ l)

-- the mark at an end of a line, of the mark of the cell at its other end
abbrev pub end_mark : {B : Type 0} → B → Edges → B → B
end_mark blank Open b = blank
end_mark blank Joined b = b

-- the marks of w cells with those at the ends
pub record WithEnds {B : Type 0} (blank : B) (e : Edges) (w : ℕ) (old new : List B) : Type 0 where
  pub keeps : (k : ℕ) → k < w
      → slice_index_or new (k + 1) blank ≡ slice_index_or old (k + 1) blank
  pub first : slice_index_or new 0 blank ≡ end_mark blank e (slice_index_or old w blank)
  pub last : slice_index_or new (w + 1) blank ≡ end_mark blank e (slice_index_or old 1 blank)

-- how many of the marks around place k of the middle one of three lines are true
abbrev pub count_around : Connectivity → List Bool → List Bool → List Bool → ℕ → ℕ
count_around Four up mid down k =
    from_bool (slice_index_or up (k + 1) false) + from_bool (slice_index_or mid k false)
    + from_bool (slice_index_or mid (k + 2) false)
    + from_bool (slice_index_or down (k + 1) false)
count_around Eight up mid down k =
    from_bool (slice_index_or up k false) + from_bool (slice_index_or up (k + 1) false)
    + from_bool (slice_index_or up (k + 2) false) + (from_bool (slice_index_or mid k false)
    + from_bool (slice_index_or mid (k + 2) false)) + (from_bool (slice_index_or down k false)
    + from_bool (slice_index_or down (k + 1) false)
    + from_bool (slice_index_or down (k + 2) false))

-- the sum of the marks around place k
abbrev pub sum_around : Connectivity → List ℕ → List ℕ → List ℕ → ℕ → ℕ
sum_around Four up mid down k =
    slice_index_or up (k + 1) 0 + slice_index_or mid k 0 + slice_index_or mid (k + 2) 0
    + slice_index_or down (k + 1) 0
sum_around Eight up mid down k =
    slice_index_or up k 0 + slice_index_or up (k + 1) 0 + slice_index_or up (k + 2) 0
    + (slice_index_or mid k 0 + slice_index_or mid (k + 2) 0)
    + (slice_index_or down k 0 + slice_index_or down (k + 1) 0 + slice_index_or down (k + 2) 0)

module _ {F T B : Type 0} (blank : B) (returns : F → Bor T → B → Type 0) (f : F) where
  -- b is an answer of f at the cell of a position, or blank where there is no cell
  abbrev pub MarkAt : (ℕ → ℕ → Option T) → Option ℕ × Option ℕ → B → Type 0
  MarkAt g p b = MatchOption (cell_at g p) (b ≡ blank) (λ n. MayAnswer returns f n.1 b)

  -- the marks of a line of w cells: those next to place k are at k, k + 1 and k + 2
  pub record MarksLine (g : ℕ → ℕ → Option T) (o : Order) (e : Edges) (w : ℕ) (line : Option ℕ)
      (marks : List B) : Type 0 where
    pub at : (k i l : ℕ) → k < w → i < 3 → l ≡ k + i
        → MarkAt g (spot o line (side e w k i)) (slice_index_or marks l blank)

  -- the cells from `start` on have these answers, from the second mark on
  pub record MarksCells (cells : List T) (start w : ℕ) (marks : List B) : Type 0 where
    pub at : (k : ℕ) (x : T) → k < w → slice_get cells (start + k) ≡ Some x
        → MayAnswer returns f x (slice_index_or marks (k + 1) blank)

-- the marks of the line before a line of a board, of the line, or of the one after it
abbrev pub MarksBeside : {F T B : Type 0} → B → (F → Bor T → B → Type 0) → Board T F → ℕ → ℕ
    → List B → Type 0
MarksBeside blank returns b line i marks =
    let o = b.layout.order in
    let size : ℕ × ℕ = (b.layout.rows, b.layout.cols) in
    MarksLine blank returns b.mark.now (strided_cell b.cells.now size (strides_of o size)) o b.edges
    (lines_of b.layout).1 (side b.edges (lines_of b.layout).0 line i) marks

module _ {F G T : Type 0} (near : List (List T) → ℕ → ℕ → List ((ℕ × ℕ) × T))
    (returns : F → Bor T → Bool → Type 0) (f : F) (t : List (List T)) where
  -- the closure g can be called at a cell of the table t and any number, at most 8, that says how
  -- many of the cells near it the closure f answers true at
  abbrev pub TakesCounted : (G → Bor T → ℕ → Type 0) → G → ℕ × ℕ → Bor T → Type 0
  TakesCounted takes g at p =
      (n : ℕ) → n ≤ 8 → CountsNear returns f (near t at.0 at.1) n → takes g p n

  -- y is something that g may return at a cell and such a number
  abbrev pub AnswersCounted : {U : Type 0} → (G → Bor T → ℕ → U → Type 0) → G → ℕ × ℕ → Bor T → U
      → Type 0
  AnswersCounted answers g at p y =
      (n : ℕ) × CountsNear returns f (near t at.0 at.1) n × answers g p n y

module _ {F G T : Type 0} (near : List (List T) → ℕ → ℕ → List ((ℕ × ℕ) × T))
    (returns : F → Bor T → ℕ → Type 0) (f : F) (t : List (List T)) where
  -- the closure g can be called at a cell of the table t and any number, at most 2040, that is the
  -- sum of what the closure f answers at the cells near it
  abbrev pub TakesSummed : (G → Bor T → ℕ → Type 0) → G → ℕ × ℕ → Bor T → Type 0
  TakesSummed takes g at p =
      (n : ℕ) → n ≤ 2040 → SumsNear returns f (near t at.0 at.1) n → takes g p n

  -- y is something that g may return at a cell and such a number
  abbrev pub AnswersSummed : {U : Type 0} → (G → Bor T → ℕ → U → Type 0) → G → ℕ × ℕ → Bor T → U
      → Type 0
  AnswersSummed answers g at p y =
      (n : ℕ) × SumsNear returns f (near t at.0 at.1) n × answers g p n y

-- three lines of marks are those of the line before a line of a board, of the line, and of the one
-- after it
pub record AreBeside {F T B : Type 0} (blank : B) (returns : F → Bor T → B → Type 0) (b : Board T F)
    (line : ℕ) (up mid down : List B) : Type 0 where
  pub before : MarksBeside blank returns b line 0 up
  pub here : MarksBeside blank returns b line 1 mid
  pub after : MarksBeside blank returns b line 2 down
  pub before_len : length up ≡ (lines_of b.layout).1 + 2
  pub here_len : length mid ≡ (lines_of b.layout).1 + 2
  pub after_len : length down ≡ (lines_of b.layout).1 + 2

module _ {F G T : Type 0} (b : Board T F) (returns : F → Bor T → Bool → Type 0) where
  -- the closure g can be called at each cell of a board and how many of those around it are marked
  abbrev pub CallableOnCounts : (G → Bor T → ℕ → Type 0) → G → Type 0
  CallableOnCounts takes g =
      CallableAtCells (TakesCounted (near b) returns b.mark.now (table b) takes) g (placed_cells b)

  -- the items are what g returns so at the first n cells
  abbrev pub AreCounted : {U : Type 0} → (G → Bor T → ℕ → U → Type 0) → G → ℕ → List U → Type 0
  AreCounted answers g n made =
      PairsUp (ReturnsAtCell (AnswersCounted (near b) returns b.mark.now (table b) answers) g)
      (take n (placed_cells b)) made

module _ {F G T : Type 0} (b : Board T F) (returns : F → Bor T → ℕ → Type 0) where
  -- the same of the sum of the marks of those around it
  abbrev pub CallableOnSums : (G → Bor T → ℕ → Type 0) → G → Type 0
  CallableOnSums takes g =
      CallableAtCells (TakesSummed (near b) returns b.mark.now (table b) takes) g (placed_cells b)

  abbrev pub AreSummed : {U : Type 0} → (G → Bor T → ℕ → U → Type 0) → G → ℕ → List U → Type 0
  AreSummed answers g n made =
      PairsUp (ReturnsAtCell (AnswersSummed (near b) returns b.mark.now (table b) answers) g)
      (take n (placed_cells b)) made
