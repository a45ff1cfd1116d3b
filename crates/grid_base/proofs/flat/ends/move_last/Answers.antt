use Rattle.std.proofs.Common.{length, ap, ◌∙◌, arith, length-append}
use Rattle.grid_base.proofs.Lemmas.{moving_none, moving_more, moved_all, moved_rest}
use Rattle.grid_base.proofs.flat.ends.move_last.Goals as goal

pub loop-moved-init : goal.loop-moved-init
loop-moved-init g c = moving_none _ _ _ _

pub take_last-requires : goal.take_last-requires
take_last-requires g c =
    let h = c.loop-moved.invariant in
    omega (arith, h.number, ap length h.split ∙ length-append _ h.gone, c.requires.enough, c.loop-moved-test.true, c.args.line.ok.0, c.loop-moved.line.ok.0)

pub loop-moved-preserved : goal.loop-moved-preserved
loop-moved-preserved g c =
    moving_more _ _ _ _ _ _ _ _ _ c.loop-moved-test.true c.requires.within c.loop-moved.invariant c.take_last.ensures.items

pub returns-clause-taken : goal.returns-clause-taken
returns-clause-taken g c = moved_all _ _ _ _ _ _ _ _ (omega (arith, c.loop-moved-test.false, c.loop-moved.auto.moved-end)) (omega (arith, c.args.line.ok.0)) c.loop-moved.invariant

pub returns-clause-rest : goal.returns-clause-rest
returns-clause-rest g c = moved_rest _ _ _ _ _ _ _ _ (omega (arith, c.loop-moved-test.false, c.loop-moved.auto.moved-end)) (omega (arith, c.args.line.ok.0)) c.loop-moved.invariant
