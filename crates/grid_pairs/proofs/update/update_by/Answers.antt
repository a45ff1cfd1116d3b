use Rattle.std.proofs.Common.{◌≡◌, sym, ap, ◌∙◌, ◌*◌, length, mul_comm}
use Rattle.grid_base.proofs.Common.{row_count, col_count, storage}
use Rattle.grid_base.specs.declared.order.Order.TheVariants.{RowMajor, ColumnMajor}
use Rattle.grid_base.proofs.StorageLemmas.{length-storage}
use Rattle.grid_base.proofs.TableLemmas.{rows-transposed}
use Rattle.grid_pairs.proofs.JoinLemmas.{transposed_cols, callable_rows, callable_cols, replaced_rows, replaced_cols, joined_back}
use Rattle.grid_pairs.proofs.update.update_by.Goals as goal

pub update_rows-requires-clause-len : goal.update_rows-requires-clause-len
update_rows-requires-clause-len g c =
    let v = c.args.grid.now in
    ap length c.as_mut_slice.ensures.cells ∙ (length-storage v.order v.rows v.table ∙ (ap (λ x. x * col_count v.rows) (sym c.requires.rows) ∙ ap (λ x. row_count c.args.other.now.rows * x) (sym c.requires.cols)))

pub update_rows-requires-clause-calls : goal.update_rows-requires-clause-calls
update_rows-requires-clause-calls g c =
    let v = c.args.grid.now in
    let o : v.order ≡ RowMajor = sym c.order.ensures ∙ c.in-RowMajor.is in
    callable_rows v.rows _ _ v.table c.args.other.now.table c.requires.rows c.requires.cols _ _ c.requires.calls (sym (ap (λ x. storage x v.rows) o) ∙ sym c.as_mut_slice.ensures.cells)

pub returns-in-RowMajor-clause-cells : goal.returns-in-RowMajor-clause-cells
returns-in-RowMajor-clause-cells g c =
    let v = c.args.grid.now in
    let o : v.order ≡ RowMajor = sym c.order.ensures ∙ c.in-RowMajor.is in
    let stored : storage RowMajor v.rows ≡ c.as_mut_slice.result.now = sym (ap (λ x. storage x v.rows) o) ∙ sym c.as_mut_slice.ensures.cells in
    rw o (joined_back _ _ RowMajor v.rows _ c.update_rows.new.cells v.table v.fits.cells (replaced_rows v.rows _ _ v.table c.args.other.now.table c.requires.rows c.requires.cols _ _ _ stored c.update_rows.ensures) (storage RowMajor v.rows) (length-storage RowMajor v.rows v.table))

pub update_rows-requires-in-ColumnMajor-clause-len : goal.update_rows-requires-in-ColumnMajor-clause-len
update_rows-requires-in-ColumnMajor-clause-len g c =
    let v = c.args.grid.now in
    let u = c.args.other.now in
    let rows : row_count c.transposed.result.rows ≡ col_count v.rows = ap row_count c.transposed.ensures.rows ∙ (rows-transposed u.rows ∙ c.requires.cols) in
    let cols : col_count c.transposed.result.rows ≡ row_count v.rows = ap col_count c.transposed.ensures.rows ∙ (transposed_cols u.rows u.table ∙ c.requires.rows) in
    ap length c.as_mut_slice-in-ColumnMajor.ensures.cells ∙ (length-storage v.order v.rows v.table ∙ (mul_comm (row_count v.rows) (col_count v.rows) ∙ (ap (λ x. x * row_count v.rows) (sym rows) ∙ ap (λ x. row_count c.transposed.result.rows * x) (sym cols))))

pub update_rows-requires-in-ColumnMajor-clause-calls : goal.update_rows-requires-in-ColumnMajor-clause-calls
update_rows-requires-in-ColumnMajor-clause-calls g c =
    let v = c.args.grid.now in
    let o : v.order ≡ ColumnMajor = sym c.order.ensures ∙ c.in-ColumnMajor.is in
    rw c.transposed.ensures.rows
    (callable_cols v.rows _ _ v.table c.args.other.now.table c.requires.rows c.requires.cols _ _ c.requires.calls (sym (ap (λ x. storage x v.rows) o) ∙ sym c.as_mut_slice-in-ColumnMajor.ensures.cells))

pub returns-in-ColumnMajor-clause-cells : goal.returns-in-ColumnMajor-clause-cells
returns-in-ColumnMajor-clause-cells g c =
    let v = c.args.grid.now in
    let o : v.order ≡ ColumnMajor = sym c.order.ensures ∙ c.in-ColumnMajor.is in
    let stored : storage ColumnMajor v.rows ≡ c.as_mut_slice-in-ColumnMajor.result.now = sym (ap (λ x. storage x v.rows) o) ∙ sym c.as_mut_slice-in-ColumnMajor.ensures.cells in
    let made = rw c.transposed.ensures.rows at c.update_rows-in-ColumnMajor.ensures in
    rw o (joined_back _ _ ColumnMajor v.rows _ c.update_rows-in-ColumnMajor.new.cells v.table v.fits.cells (replaced_cols v.rows _ _ v.table c.args.other.now.table c.requires.rows c.requires.cols _ _ _ stored made) (storage ColumnMajor v.rows) (length-storage ColumnMajor v.rows v.table))
