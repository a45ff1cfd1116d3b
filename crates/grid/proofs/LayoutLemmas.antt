-- The rows of cells that are transposed in place.
use Rattle.std.proofs.Common.{◌≡◌, ◌*◌, ℕ, List, length, ◌∙◌, sym}
use Rattle.grid_base.specs.declared.order.Order.TheVariants.{RowMajor, ColumnMajor}
use Rattle.grid.proofs.Common.{TransposedInPlace, rows-tabulate, width-table_of, cell-table_of}
use Rattle.grid_base.specs.Order.{table_of}
use Rattle.grid.proofs.RowEditLemmas.{table_by_cells}

module _ {T : Type 0} (m n : ℕ) (old new : List T) (len : length old ≡ m * n) where
  pub in_place_rows : TransposedInPlace m n old new → table_of ColumnMajor m n new ≡ table_of RowMajor m n old
  in_place_rows h =
      table_by_cells ColumnMajor m n new (table_of RowMajor m n old) (rows-tabulate m n _) (λ r lt. width-table_of RowMajor m n old len r lt)
      (λ r lr c lc. h.at r c lr lc ∙ sym (cell-table_of RowMajor m n old len r c lr lc))

  pub in_place_cols : TransposedInPlace n m old new → table_of RowMajor m n new ≡ table_of ColumnMajor m n old
  in_place_cols h =
      table_by_cells RowMajor m n new (table_of ColumnMajor m n old) (rows-tabulate m n _) (λ r lt. width-table_of ColumnMajor m n old len r lt)
      (λ r lr c lc. h.at c r lc lr ∙ sym (cell-table_of ColumnMajor m n old len r c lr lc))
