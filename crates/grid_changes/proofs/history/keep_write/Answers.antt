use Rattle.std.proofs.Common.{◌+◌, ◌++◌, ◌∷◌, [], take, take_all, length-set, set, sym, ap, ◌∙◌, arith}
use Rattle.std.proofs.lemmas.List.{take_more_set}
use Rattle.grid_changes.proofs.history.keep_write.Goals as goal

pub returns-else-done-len : goal.returns-else-done-len
returns-else-done-len g c =
    let xs = c.args.steps.now.items in
    let at = c.args.done in
    let x = c.make_write.new.change in
    sym (take_all (at + 1) (set xs at x) (omega (arith, length-set xs at x, c.if-done-len.false)))
    ∙ (take_more_set xs at x (omega (arith, c.requires.within)) ∙ ap (λ y. take at xs ++ y ∷ []) c.make_write.ensures)
