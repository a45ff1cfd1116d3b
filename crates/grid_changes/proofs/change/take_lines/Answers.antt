use Rattle.std.proofs.Common.{take, drop, ap, ◌∙◌}
use Rattle.grid.proofs.Common.{on_err_weaker, act, without_rows}
use Rattle.grid.proofs.TransposedEditLemmas.{twice_across}
use Rattle.grid_base.specs.declared.words.Symmetry.TheVariants.{Transpose}
use Rattle.grid_changes.proofs.ChangeLemmas.{ok_both, taken_fits, taken_back}
use Rattle.grid_changes.proofs.change.take_lines.Goals as goal

pub returns-in-Row-clause-back : goal.returns-in-Row-clause-back
returns-in-Row-clause-back g c =
    ok_both c.take_rows.result c.take_rows.ensures.rows c.take_rows.ensures.lines
    (λ ls less taken. taken_back c.args.axis c.args.at c.args.count ls.rows c.args.grid.now.rows c.take_rows.new.grid.rows c.args.grid.now.table c.requires (rw c.in-Row.is less) (rw c.in-Row.is taken))

pub returns-in-Col-clause-lines : goal.returns-in-Col-clause-lines
returns-in-Col-clause-lines g c =
    let there = c.transpose.ensures.rows in
    let back = c.transpose-in-Col.ensures.rows in
    ok_both c.take_rows-taken.result c.take_rows-taken.ensures.rows c.take_rows-taken.ensures.lines
    (λ ls less taken.
    taken_fits c.args.axis c.args.at c.args.count ls.rows c.args.grid.now.rows c.transpose-in-Col.new.self.rows c.args.grid.now.table c.requires
    (rw c.in-Col.is (back ∙ ap (act Transpose) (less ∙ ap (without_rows c.args.at c.args.count) there)))
    (rw c.in-Col.is (taken ∙ ap (λ v. take c.args.count (drop c.args.at v)) there)))

pub returns-in-Col-clause-back : goal.returns-in-Col-clause-back
returns-in-Col-clause-back g c =
    let there = c.transpose.ensures.rows in
    let back = c.transpose-in-Col.ensures.rows in
    ok_both c.take_rows-taken.result c.take_rows-taken.ensures.rows c.take_rows-taken.ensures.lines
    (λ ls less taken.
    taken_back c.args.axis c.args.at c.args.count ls.rows c.args.grid.now.rows c.transpose-in-Col.new.self.rows c.args.grid.now.table c.requires
    (rw c.in-Col.is (back ∙ ap (act Transpose) (less ∙ ap (without_rows c.args.at c.args.count) there)))
    (rw c.in-Col.is (taken ∙ ap (λ v. take c.args.count (drop c.args.at v)) there)))

pub returns-in-Col-clause-unchanged : goal.returns-in-Col-clause-unchanged
returns-in-Col-clause-unchanged g c =
    let there = c.transpose.ensures in
    let back = c.transpose-in-Col.ensures in
    on_err_weaker c.take_rows-taken.result
    (λ same. twice_across c.args.grid.now c.transpose.new.self c.take_rows-taken.new.grid c.transpose-in-Col.new.self c.args.grid.now.table there.rows there.order same back.rows back.order)
    c.take_rows-taken.ensures.unchanged
