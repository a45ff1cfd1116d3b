use Rattle.std.proofs.Common.{rules, ◌≡◌, [], ◌++◌, sym, ◌∙◌, ap, length, length-append, Err, arith}
use Rattle.grid.proofs.Common.{row_count, col_count, storage, length-storage, same_grid_value}
use Rattle.grid.proofs.Lemmas.{rows_appended, cols_appended, times_none, same_cut, can_cut_again}
use Rattle.grid.proofs.grid.Grid.append_rows.Goals as goal

pub destroy_empty-requires : goal.destroy_empty-requires
destroy_empty-requires g c =
    let other = c.args.other in
    let rows : other.rows ≡ [] = c.is_empty.ensures.0 c.if-is_empty.true in
    let none : length c.into_vec.result.items ≡ 0 =
    ap length c.into_vec.ensures ∙ (length-storage other.order other.rows other.table ∙ times_none (row_count other.rows) (col_count other.rows) (ap length rows)) in
    omega (arith, none)

pub put_rows-requires-clause-cells : goal.put_rows-requires-clause-cells
put_rows-requires-clause-cells g c =
    let other = c.lay_out.new.self in
    ap length c.into_vec-cells.ensures ∙ rw (c.size-count.ensures.rows, c.size-count.ensures.cols) (length-storage other.order other.rows other.table)

pub returns-in-Ok-clause-rows : goal.returns-in-Ok-clause-rows
returns-in-Ok-clause-rows g c =
    c.in-Ok.ensures.rows
    ∙ (rows_appended _ _ _ _ c.args.self.now c.lay_out.new.self c.rows-end.ensures.rows c.size-count.ensures.rows c.size-count.ensures.cols (c.lay_out.ensures.order ∙ c.order.ensures) c.into_vec-cells.ensures
    ∙ ap (λ x. c.args.self.now.rows ++ x) c.lay_out.ensures.rows)

pub returns-in-Ok-clause-row_count : goal.returns-in-Ok-clause-row_count
returns-in-Ok-clause-row_count g c =
    omega (arith, ap length (returns-in-Ok-clause-rows g c), length-append c.args.self.now.rows c.args.other.rows)

pub returns-in-Ok-clause-other_cols : goal.returns-in-Ok-clause-other_cols
returns-in-Ok-clause-other_cols g c some =
    ap col_count (returns-in-Ok-clause-rows g c) ∙ cols_appended c.args.self.now.rows c.args.other.rows (c.requires.fits some)

pub from_vec_with_order-grid-requires : goal.from_vec_with_order-grid-requires
from_vec_with_order-grid-requires g c =
    let other = c.lay_out.new.self in
    can_cut_again other.order other.rows _ _ other.table (ap length (c.in-Err.ensures.cells_stay ∙ c.into_vec-cells.ensures)) (λ some. sym c.size-count.ensures.cols)

pub returns-in-Err-clause-fails : goal.returns-in-Err-clause-fails
returns-in-Err-clause-fails g c =
    let other = c.lay_out.new.self in
    let laid = c.lay_out.ensures.rows in
    let cells = c.in-Err.ensures.cells_stay ∙ c.into_vec-cells.ensures in
    let order = c.order-in-Err.ensures ∙ (c.in-Err.ensures.order ∙ sym (c.lay_out.ensures.order ∙ c.order.ensures)) in
    let back = c.from_vec_with_order-grid.result in
    let rows : back.rows ≡ other.rows =
    same_cut other.order other.rows back.rows _ other.table back.table (ap (λ o. storage o back.rows) (sym order) ∙ (c.from_vec_with_order-grid.ensures.storage ∙ cells))
    (λ some. c.from_vec_with_order-grid.ensures.cols (λ none. some (sym (ap length cells) ∙ none)))
    (λ some. sym c.size-count.ensures.cols) in
    let full = rw (c.size-count.ensures.rows, c.size-count.ensures.cols, laid) at c.in-Err.ensures.too_large in
    record {
      too_large = (λ e. full.0 (ap Err e), λ large. let e = full.1 large in cc);
      none = (search rules);
      grid_back =
          same_grid_value _ _ (c.lay_out-in-Err.ensures.rows ∙ (rows ∙ laid))
          (c.lay_out-in-Err.ensures.order ∙ c.order-order.ensures);
      unchanged = c.in-Err.ensures.unchanged;
    }
