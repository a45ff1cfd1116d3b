use Rattle.std.proofs.Common.{◌≡◌, ◌+◌, ◌-◌, ◌++◌, take, drop, length, refl, ap, ◌∙◌, arith}
use Rattle.grid.proofs.Common.{same_grid_value, on_ok_weaker, on_err_weaker, IfOk-weaker}
use Rattle.grid_changes.proofs.RollLemmas.{split_part, left_back, none_left}
use Rattle.grid_changes.proofs.change.take_rows.Goals as goal

pub returns-clause-rows : goal.returns-clause-rows
returns-clause-rows g c =
    let rest = c.rows.result - c.args.count in
    let t = c.args.grid.now.rows in
    let whole : rest + c.args.count ≡ length t = omega (arith, c.rows.ensures.rows, c.requires) in
    on_ok_weaker c.split_off_rows-taken.result
    (λ cut. left_back c.args.at c.args.count t c.requires rest (rest - c.args.at) c.roll_rows.new.grid.rows c.split_off_rows-taken.new.self.rows _ whole refl c.roll_rows.ensures.rows cut c.roll_rows-2.ensures.rows)
    c.split_off_rows-taken.ensures.rows

pub returns-clause-lines : goal.returns-clause-lines
returns-clause-lines g c =
    let rest = c.rows.result - c.args.count in
    let t = c.args.grid.now.rows in
    let whole : rest + c.args.count ≡ length t = omega (arith, c.rows.ensures.rows, c.requires) in
    IfOk-weaker c.split_off_rows-taken.result _ _
    (λ tail e. e ∙ split_part c.args.at c.args.count t c.requires rest c.roll_rows.new.grid.rows whole c.roll_rows.ensures.rows)
    c.split_off_rows-taken.ensures.tail

pub returns-clause-unchanged : goal.returns-clause-unchanged
returns-clause-unchanged g c =
    let rest = c.rows.result - c.args.count in
    let behind = rest - c.args.at in
    let t = c.args.grid.now.rows in
    let whole : rest + c.args.count ≡ length t = omega (arith, c.rows.ensures.rows, c.requires) in
    on_err_weaker c.split_off_rows-taken.result
    (λ same. same_grid_value _ _
    (none_left c.args.at c.args.count t c.requires rest behind c.roll_rows.new.grid.rows _ whole refl c.roll_rows.ensures.rows
    (c.roll_rows-2.ensures.rows ∙ ap (λ s. drop behind s.rows ++ take behind s.rows) same))
    (c.roll_rows-2.ensures.order ∙ (c.split_off_rows-taken.ensures.order ∙ c.roll_rows.ensures.order)))
    c.split_off_rows-taken.ensures.err
