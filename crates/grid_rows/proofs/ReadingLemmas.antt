-- What a reader of rows knows from one row to the next.
use Rattle.std.proofs.Common.{◌≡◌, ◌≢◌, ℕ, Option, Some, None, List, [], ◌∷◌, ◌++◌, length, refl, sym, ap, subst, ◌∙◌, append_assoc, append-nil}
use Rattle.grid_commands.specs.declared.error.ShapeError.TheVariants.{Ragged}
use Rattle.grid_rows.specs.Rows.{RowsValue}
use Rattle.grid_rows.specs.Builder.{FitsCols, RowFault, with_cells, with_row}

fits_is : (w len : ℕ) (cols : Option ℕ) → (cols ≡ None → len ≡ w) → ((n : ℕ) → cols ≡ Some n → n ≡ w) → FitsCols cols len → len ≡ w
fits_is w len None first wide fits = first refl
fits_is w len (Some n) first wide fits = fits ∙ wide n refl

module _ {T : Type 0} where
  pub with_cells-nil : (b : RowsValue T) → with_cells b [] ≡ b
  with_cells-nil b = ap (λ cells. record b { cells = cells }) (append-nil b.cells)

  -- a cell more
  pub with_cells-more : (old new added : RowsValue T) (row : List T) (cell : T) → new ≡ with_cells old row → added ≡ with_cells new (cell ∷ []) → added ≡ with_cells old (row ++ cell ∷ [])
  with_cells-more old new added row cell put push =
      push ∙ (ap (λ b. with_cells b (cell ∷ [])) put ∙ ap (λ cells. record old { cells = cells }) (append_assoc old.cells row (cell ∷ [])))

  -- between two rows, each of w cells
  pub record IsBetween (w : ℕ) (b : RowsValue T) : Type 0 where
    pub none_open : b.cells ≡ []
    pub wide : (cols : ℕ) → b.cols ≡ Some cols → cols ≡ w

  -- the cells of a row were added
  module _ (w : ℕ) (b pushed : RowsValue T) (i : IsBetween w b) (row : List T) (put : pushed ≡ with_cells b row) where
    pub open_is : pushed.cells ≡ row
    open_is = ap (λ x. x.cells) put ∙ ap (λ cells. cells ++ row) i.none_open

    pub row_fits : (b.cols ≡ None → length row ≡ w) → FitsCols pushed.cols (length pushed.cells) → length row ≡ w
    row_fits first fits =
        fits_is w (length row) b.cols first i.wide (subst (λ len. FitsCols b.cols len) (ap length open_is) (subst (λ x. FitsCols x.cols (length pushed.cells)) put fits))

    pub between_more : length row ≡ w → IsBetween w (with_row pushed)
    between_more is = record { none_open = refl; wide = λ cols e. let same : length pushed.cells ≡ cols = cc in sym same ∙ (ap length open_is ∙ is) }

    pub rows_more : (with_row pushed).rows ≡ b.rows ++ row ∷ []
    rows_more = ap (λ x. x.rows ++ pushed.cells ∷ []) put ∙ ap (λ cells. b.rows ++ cells ∷ []) open_is

    pub ragged_is : (number len cols : ℕ) → RowFault pushed (Ragged number len cols) → (len ≡ length row) × (cols ≡ w) × (len ≢ cols)
    ragged_is number len cols fault =
        (fault.1 ∙ ap length open_is, i.wide cols (ap (λ x. x.cols) (sym put) ∙ fault.2), fault.3)
