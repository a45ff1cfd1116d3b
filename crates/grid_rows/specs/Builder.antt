-- What ending a row does, and why a row can't be ended.
use Rattle.std.specs.Prelude.{List, ◌≡◌, ◌≢◌, ℕ, ◌+◌, ◌^◌, Option, Some, None, [], ◌∷◌, ◌++◌, length, Result, MatchResult, ⊤}
use Rattle.grid_commands.specs.declared.error.ShapeError.{ShapeError}
use Rattle.grid_commands.specs.declared.error.ShapeError.TheVariants.{TooLarge, Shape, Ragged, Memory}
use Rattle.grid_rows.specs.Rows.{RowsValue}

-- a row of this many cells can be ended
abbrev pub FitsCols : Option ℕ → ℕ → Type 0
FitsCols None len = Unit {0}
FitsCols (Some cols) len = len ≡ cols

module _ {T : Type 0} where
  -- the open row has these cells more
  abbrev pub with_cells : RowsValue T → List T → RowsValue T
  with_cells b more = record b { cells = b.cells ++ more }

  -- the open row is ended, and an empty one is open
  abbrev pub with_row : RowsValue T → RowsValue T
  with_row b = record { cols = Some (length b.cells); rows = b.rows ++ b.cells ∷ []; cells = [] }

  -- why the open row can't be ended
  abbrev pub RowFault : RowsValue T → ShapeError → Type 0
  RowFault b TooLarge = FitsCols b.cols (length b.cells) × (length b.rows + 1 ≡ 2 ^ 64)
  RowFault b (Shape len cols) = ⊥
  RowFault b (Ragged row len cols) = (row ≡ length b.rows) × (len ≡ length b.cells)
      × (b.cols ≡ Some cols) × (len ≢ cols)
  RowFault b Memory = ⊥

  -- it is ended, or it stays open
  abbrev pub EndsRow : RowsValue T → RowsValue T → Result ⊤ ShapeError → Type 0
  EndsRow old new result = MatchResult result
      (λ _. FitsCols old.cols (length old.cells) × (new ≡ with_row old))
      (λ e. RowFault old e × (new ≡ old))
