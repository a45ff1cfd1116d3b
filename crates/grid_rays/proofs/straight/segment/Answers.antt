use Rattle.std.proofs.Common.{subst, sym}
use Rattle.grid_rays.specs.Segments.{IsStraight}
use Rattle.grid_rays.proofs.SegmentLemmas.{segment_is}
use Rattle.grid_rays.proofs.StraightLemmas.{IsStraight-segment}
use Rattle.grid_rays.proofs.straight.segment.Goals as goal

pub returns-clause-positions : goal.returns-clause-positions
returns-clause-positions c =
    rw (c.new.ensures.from, c.new.ensures.to, c.new-2.ensures.from, c.new-2.ensures.to, c.steps_between-steps.ensures) (segment_is c.args.from c.args.to)

pub returns-clause-straight : goal.returns-clause-straight
returns-clause-straight c =
    subst (IsStraight c.args.from c.args.to) (sym (returns-clause-positions c)) (IsStraight-segment c.args.from c.args.to)
