use Rattle.std.proofs.Common.{◌<◌, ◌^◌, Bool, length, ◌∙◌, ap, sym, rules}
use Rattle.grid_base.proofs.Common.{line_cells}
use Rattle.grid_base.proofs.SteppedLemmas.{steps_back, stepped_back, steps_forward, stepped_forward}
use Rattle.grid_base.proofs.flat.stepped_iter.SteppedIter.over.Goals as goal
use Rattle.grid_base.proofs.flat.stepped_iter.SteppedIter.over.Goals.{then-backwards, else-backwards}

pub invariant_of-result : goal.invariant_of-result
invariant_of-result g c =
    let fits : length c.args.cells.now < 2 ^ 64 = search rules in
    elim c.if-backwards.branch [
      | then-backwards w ↦ rw w.first-is (steps_back _ _ _ _ c.requires.some c.requires.within fits _ w.wrapping_neg.ensures)
      | else-backwards w ↦ rw w.first-is (steps_forward _ _ _ _ c.requires.some c.requires.within fits)
    ]

pub returns : goal.returns
returns g c =
    let fits : length c.args.cells.now < 2 ^ 64 = search rules in
    let line = λ (b : Bool). line_cells c.args.start c.args.count c.args.stride b c.args.cells.now in
    elim c.if-backwards.branch [
      | then-backwards w ↦ rw w.first-is (stepped_back _ _ _ _ c.requires.some c.requires.within fits _ w.wrapping_neg.ensures ∙ ap line (sym w.if-backwards.true))
      | else-backwards w ↦ rw w.first-is (stepped_forward _ _ _ _ c.requires.some c.requires.within fits ∙ ap line (sym w.if-backwards.false))
    ]
