-- The cells in which one table differs from another.
use Rattle.std.specs.Prelude.{◌≡◌, ℕ, ◌+◌, ◌*◌, ◌<◌, ◌≤◌, Bool, true, false, not, IsTrue, Option, None, Some, List, length, drop, slice_get, map, filter}
use Rattle.grid.specs.Prelude.{col_count, cell, CommandValue, command_value, set_cell}
use Rattle.grid_base.specs.Iterators.{indexed_cells}
use Rattle.grid_commands.specs.declared.command.Command.{Command}
use Rattle.grid_base.specs.declared.order.Order.TheVariants.{RowMajor}

module _ {T : Type 0} (same : T → T → Bool) where
  -- whether there is a cell, and it is the same as x
  abbrev pub is_cell : Option T → T → Bool
  is_cell None x = false
  is_cell (Some y) x = same y x

  -- those of a list of cells with their positions that table t doesn't have there
  abbrev pub new_cells : List (List T) → List ((ℕ × ℕ) × T) → List ((ℕ × ℕ) × T)
  new_cells t cells = filter (λ p. not (is_cell (cell t (p.0).0 (p.0).1) p.1)) cells

  -- the cells of u that t doesn't have at their positions, row by row
  abbrev pub changed_cells : List (List T) → List (List T) → List ((ℕ × ℕ) × T)
  changed_cells t u = new_cells t (indexed_cells RowMajor u)

  -- those from row r and column c on
  abbrev pub cells_left : List (List T) → List (List T) → ℕ → ℕ → List ((ℕ × ℕ) × T)
  cells_left t u r c = new_cells t (drop (r * col_count u + c) (indexed_cells RowMajor u))

  -- from column i of a row on, column k has the first cell that an old row doesn't have there; or
  -- there is none, and k is the end of the row
  pub record IsNextChange (old new : List T) (i k : ℕ) : Type 0 where
    pub from : i ≤ k
    pub within : k ≤ length new
    pub passed : (j : ℕ) (x : T) → i ≤ j → j < k → slice_get new j ≡ Some x
        → is_cell (slice_get old j) x ≡ true
    pub here : (x : T) → slice_get new k ≡ Some x → is_cell (slice_get old k) x ≡ false

-- cells that are the same by a test are equal
abbrev pub SameAreEqual : {T : Type 0} → (T → T → Bool) → Type 0
SameAreEqual {T} same = (x y : T) → IsTrue (same x y) → x ≡ y

-- the commands that write cells at their positions
abbrev pub writes : {T : Type 0} → List ((ℕ × ℕ) × T) → List (CommandValue T)
writes cells = map (λ p. set_cell (p.0).0 (p.0).1 p.1) cells

-- a command writes a clone of a cell at its position
pub record WritesClone {T A : Type 0} (is_clone : T → T → Type 0) (p : (ℕ × ℕ) × T)
    (x : Command T A) : Type 0 where
  pub copy : T
  pub is_copy : is_clone p.1 copy
  pub is : command_value x ≡ set_cell (p.0).0 (p.0).1 copy
