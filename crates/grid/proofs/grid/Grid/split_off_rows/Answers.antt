use Rattle.std.proofs.Common.{◌≡◌, ◌<◌, ◌-◌, ◌∙◌, sym, ap, arith, length, take, drop, length-drop, rules}
use Rattle.grid.proofs.Common.{row_count, col_count, storage, without_rows}
use Rattle.grid.proofs.Lemmas.{can_cut_again, same_cut, IsTable-tail, cols-tail, all_taken, take_without}
use Rattle.grid.proofs.grid.Grid.split_off_rows.Goals as goal

pub from_vec_with_order-requires : goal.from_vec_with_order-requires
from_vec_with_order-requires g c =
    let old = c.args.self.now in
    let cells = c.in_ok-cells.ensures.cells ∙ ap (λ x. storage old.order (take (x - c.args.at) (drop c.args.at old.rows))) c.size-rows.ensures.rows in
    let tail = cells ∙ ap (storage old.order) (all_taken old.rows old.table c.args.at c.requires.point) in
    can_cut_again old.order (drop c.args.at old.rows) _ _ (IsTable-tail old.rows old.table c.args.at c.requires.point) (ap length tail)
    (λ some. cols-tail old.rows old.table c.args.at c.requires.point some ∙ sym c.size-rows.ensures.cols)

pub returns-clause-rows : goal.returns-clause-rows
returns-clause-rows g c =
    let old = c.args.self.now in
    c.in_ok-cells.ensures.rows ∙ (ap (λ x. without_rows c.args.at (x - c.args.at) old.rows) c.size-rows.ensures.rows ∙ sym (take_without c.args.at old.rows c.requires.point))

pub returns-clause-tail : goal.returns-clause-tail
returns-clause-tail g c =
    let old = c.args.self.now in
    let behind = c.in_ok-cells.ensures.cells ∙ ap (λ x. storage old.order (take (x - c.args.at) (drop c.args.at old.rows))) c.size-rows.ensures.rows in
    let tail = behind ∙ ap (storage old.order) (all_taken old.rows old.table c.args.at c.requires.point) in
    let order : c.self.inside.order ≡ old.order = ap (λ x. x.order) c.self.view_is ∙ c.in_ok-cells.ensures.order in
    let cells : storage old.order c.from_vec_with_order.result.rows ≡ storage old.order (drop c.args.at old.rows) =
    ap (λ o. storage o c.from_vec_with_order.result.rows) (sym order) ∙ (c.from_vec_with_order.ensures.storage ∙ tail) in
    same_cut old.order (drop c.args.at old.rows) c.from_vec_with_order.result.rows _ (IsTable-tail old.rows old.table c.args.at c.requires.point) c.from_vec_with_order.result.table cells
    (λ some. c.from_vec_with_order.ensures.cols (λ none. some (sym (ap length tail) ∙ none)))
    (λ some. cols-tail old.rows old.table c.args.at c.requires.point some ∙ sym c.size-rows.ensures.cols)

pub returns-clause-tail_rows : goal.returns-clause-tail_rows
returns-clause-tail_rows g c = ap row_count (returns-clause-tail g c) ∙ length-drop c.args.at c.args.self.now.rows

pub returns-clause-tail_cols : goal.returns-clause-tail_cols
returns-clause-tail_cols g c some =
    let left : 0 < row_count (drop c.args.at c.args.self.now.rows) = omega (arith, some, length-drop c.args.at c.args.self.now.rows) in
    ap col_count (returns-clause-tail g c) ∙ cols-tail c.args.self.now.rows c.args.self.now.table c.args.at c.requires.point left

pub returns-clause-tail_order : goal.returns-clause-tail_order
returns-clause-tail_order = search rules
