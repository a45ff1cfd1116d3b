-- Rows as JSON data: an array of arrays.
use Rattle.std.specs.Prelude.{◌≡◌, ◌≢◌, ◌⊎◌, ◌<◌, ℕ, List, ◌∷◌, ◌++◌, length, map, All, Option, Some, None, Result, Ok, Err, MatchResult}
use Rattle.grid.specs.Prelude.{GridValue, equal_rows}
use Rattle.grid_rows.specs.Rows.{RowsValue}
use Rattle.grid_rows.specs.Builder.{with_cells}
use denote.Ref.{Bor}
use Rattle.std.specs.List.{AllZip}
use Rattle.std.specs.declared.alloc.AllocError.{AllocError}
use Rattle.serde_json.specs.Data.{Data, array}
use Rattle.serde_json.specs.View.{items_of, view}
use Rattle.serde_json.specs.declared.value.Value.{Value}
use Rattle.grid_base.specs.declared.order.Order.TheVariants.{RowMajor}
use Rattle.grid_json.specs.declared.error.RowsError.{RowsError}
use Rattle.grid_json.specs.declared.error.RowsError.TheVariants.{Memory, NotRows, NotRow, BadCell, Ragged}

-- an array of these data
abbrev pub array_of : List Data → Data
array_of ds = array (items_of ds)

-- whatever the closure answers at a reference to a cell, h gives, as data
abbrev pub WritesBy : {F T : Type 0} → (F → Bor T → Result Value AllocError → Type 0) → F → (T → Data)
    → Type 0
WritesBy {F} {T} returns write h = (cell : Bor T) (value : Value) → returns write cell (Ok value)
    → view value ≡ h cell.now

-- the closure may answer this data at a reference to a cell
pub record AnswersCell {F T : Type 0} (returns : F → Bor T → Result Value AllocError → Type 0)
    (write : F) (x : T) (d : Data) : Type 0 where
  pub cell : Bor T
  pub value : Value
  pub is_cell : cell.now ≡ x
  pub is_data : view value ≡ d
  pub answers : returns write cell (Ok value)

-- the data is an array of an array for each row, with h x for the cell x
pub record IsRows {T : Type 0} (h : T → Data) (rows : List (List T)) (d : Data) : Type 0 where
  pub is : d ≡ array_of (map (λ row. array_of (map h row)) rows)

-- where R says which data a cell may be written as
module _ {T : Type 0} (R : T → Data → Type 0) where
  -- an array of what may be written of these cells
  pub record MayBeRow (row : List T) (d : Data) : Type 0 where
    pub items : List Data
    pub are_items : AllZip R row items
    pub is : d ≡ array_of items

  -- an array of what may be written of these rows
  pub record MayBeRows (rows : List (List T)) (d : Data) : Type 0 where
    pub items : List Data
    pub are_items : AllZip MayBeRow rows items
    pub is : d ≡ array_of items

-- ---- reading

-- the closure may answer so at a value of this data
pub record AnswersItem {F T : Type 0}
    (returns : F → Bor Value → Result (Option T) AllocError → Type 0) (read : F) (d : Data)
    (cell : Option T) : Type 0 where
  pub value : Bor Value
  pub is_data : view value.now ≡ d
  pub answers : returns read value (Ok cell)

-- whatever the closure answers at a value, h gives of its data
abbrev pub ReadsBy : {F T : Type 0} → (F → Bor Value → Result (Option T) AllocError → Type 0) → F
    → (Data → Option T) → Type 0
ReadsBy {F} {T} returns read h = (value : Bor Value) (cell : Option T)
    → returns read value (Ok cell) → cell ≡ h (view value.now)

-- the answer that h gives of this data
abbrev pub GivenBy : {T : Type 0} → (Data → Option T) → Data → Option T → Type 0
GivenBy h d cell = cell ≡ h d

-- the data isn't an array
abbrev pub NoArray : Data → Type 0
NoArray d = (items : List Data) → d ≡ array_of items → ⊥

-- where R says which answers an item may have
module _ {T : Type 0} (R : Data → Option T → Type 0) where
  -- these cells may be read of these items
  abbrev pub AreCells : List Data → List T → Type 0
  AreCells items cells = AllZip (λ d cell. R d (Some cell)) items cells

  -- the data is an array of items of which the row may be read
  pub record IsRow (d : Data) (row : List T) : Type 0 where
    pub items : List Data
    pub is : d ≡ array_of items
    pub are_cells : AreCells items row

  -- the first item of an array that may be no cell has this index
  pub record IsBadCell (d : Data) (col : ℕ) : Type 0 where
    pub before : List Data
    pub bad : Data
    pub after : List Data
    pub cells : List T
    pub is : d ≡ array_of (before ++ bad ∷ after)
    pub is_col : col ≡ length before
    pub are_cells : AreCells before cells
    pub no_cell : R bad None

  -- why the data of this index, after rows of cols cells, may be no row
  abbrev pub IsBadRow : ℕ → ℕ → Data → RowsError → Type 0
  IsBadRow index cols d NotRows = ⊥
  IsBadRow index cols d (NotRow row) = (row ≡ index) × NoArray d
  IsBadRow index cols d (BadCell row col) = (row ≡ index) × IsBadCell d col
  IsBadRow index cols d (Ragged row len n) = (row ≡ index) × (0 < index) × (n ≡ cols) × (len ≢ cols)
      × ((cells : List T) × IsRow d cells × (len ≡ length cells))
  IsBadRow index cols d Memory = ⊥

  -- these rows of cols cells may be read of these data
  pub record AreRows (items : List Data) (cols : ℕ) (rows : List (List T)) : Type 0 where
    pub are_rows : AllZip IsRow items rows
    pub even : All (λ row. length row ≡ cols) rows

  -- the fault of the first of these data that may be no row
  pub record IsFault (items : List Data) (e : RowsError) : Type 0 where
    pub before : List Data
    pub bad : Data
    pub after : List Data
    pub cols : ℕ
    pub rows : List (List T)
    pub parts : items ≡ before ++ bad ∷ after
    pub are : AreRows before cols rows
    pub is_bad : IsBadRow (length before) cols bad e

  -- the answer at an array of these data
  abbrev pub MayReadItems : List Data → Result (GridValue T) RowsError → Type 0
  MayReadItems items answer = MatchResult answer
      (λ g. (g.order ≡ RowMajor) × ((cols : ℕ) × (rows : List (List T)) × AreRows items cols rows
      × (g.rows ≡ equal_rows rows)))
      (λ e. (e ≡ Memory) ⊎ IsFault items e)

  -- the answer at data: an array is read, and other data is refused
  abbrev pub MayRead : Data → Result (GridValue T) RowsError → Type 0
  MayRead d answer = ((answer ≡ Err NotRows) × NoArray d)
      ⊎ ((items : List Data) × (d ≡ array_of items) × MayReadItems items answer)

  -- the cells of the row that this data is are added to the open row
  pub record AddsRow (d : Data) (old new : RowsValue T) : Type 0 where
    pub row : List T
    pub put : new ≡ with_cells old row
    pub is_row : IsRow d row

  -- allocation failed, or the data of this index may be no row whatever the others are
  abbrev pub IsMemoryOrBad : ℕ → Data → RowsError → Type 0
  IsMemoryOrBad index d e = (e ≡ Memory) ⊎ ((cols : ℕ) → IsBadRow index cols d e)

-- the answer is what is read of this data, where h says which cell an item is
pub record IsRead {T : Type 0} (h : Data → Option T) (d : Data)
    (answer : Result (GridValue T) RowsError) : Type 0 where
  pub is : MayRead (GivenBy h) d answer
