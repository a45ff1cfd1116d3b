-- A part of a table. That it is a table is proved here, from lemmas of grid_base.
use Rattle.std.specs.Prelude.{◌≡◌, ℕ, ◌+◌, ◌*◌, ◌≤◌, List, length}
use Rattle.std.proofs.Common.{arith}
use Rattle.grid_base.specs.Table.{IsSize, IsTable, row_count, col_count, cell}
use Rattle.grid_base.specs.Order.{table_of}
use Rattle.grid_base.specs.declared.layout.Layout.{Layout}
use Rattle.grid_base.proofs.TableLemmas.{IsFull, IsFull-cells, IsTable-tabulate}
use Rattle.grid_base.proofs.ViewLemmas.{view-rows, view-cols, view-table}
use Rattle.grid_base.specs.GridValue.{HoldsSize}
use Rattle.grid_view.specs.View.{sub_table}

-- m rows and n columns have size.0 rows and size.1 columns from position `at` on, and those have
-- rows exactly if they have columns
pub record IsPart (m n : ℕ) (at size : ℕ × ℕ) : Type 0 where
  pub rows_in : at.0 + size.0 ≤ m
  pub cols_in : at.1 + size.1 ≤ n
  pub none : IsSize size.0 size.1

pub full-part : {T : Type 0} (t : List (List T)) → IsTable t → (at size : ℕ × ℕ)
    → IsPart (row_count t) (col_count t) at size
    → IsFull size.0 size.1 (λ r c. cell t (at.0 + r) (at.1 + c))
full-part t h at size p = record {
  full = λ r c lr lc. (IsFull-cells t h).full (at.0 + r) (at.1 + c)
      (omega (arith, p.rows_in, lr)) (omega (arith, p.cols_in, lc));
}

pub IsTable-part : {T : Type 0} (t : List (List T)) → IsTable t → (at size : ℕ × ℕ)
    → IsPart (row_count t) (col_count t) at size → IsTable (sub_table t at size)
IsTable-part t h at size p = IsTable-tabulate size.0 size.1 _ p.none (full-part t h at size p)

-- a part of a table that is stored
module _ {T : Type 0} (b : Layout) (cells : List T) (stored : length cells ≡ b.rows * b.cols)
    (at size : ℕ × ℕ) (p : IsPart b.rows b.cols at size) where
  pub fits-board : HoldsSize b.rows b.cols (length cells)
  fits-board = record { cells = stored; below = b.fits; size = b.size }

  pub IsTable-board : IsTable (table_of b.order b.rows b.cols cells)
  IsTable-board = view-table b.order b.rows b.cols cells fits-board

  pub within-board : IsPart (row_count (table_of b.order b.rows b.cols cells))
      (col_count (table_of b.order b.rows b.cols cells)) at size
  within-board = record {
    rows_in = omega (arith, p.rows_in, view-rows b.order b.rows b.cols cells fits-board);
    cols_in = omega (arith, p.cols_in, view-cols b.order b.rows b.cols cells fits-board);
    none = p.none;
  }

  pub IsTable-shown : IsTable (sub_table (table_of b.order b.rows b.cols cells) at size)
  IsTable-shown = IsTable-part (table_of b.order b.rows b.cols cells) IsTable-board at size
      within-board
