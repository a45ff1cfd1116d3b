use Rattle.std.proofs.Common.{arith}
use Rattle.grid_rays.proofs.SegmentLemmas.{up_fits, stepped_down}
use Rattle.grid_rays.proofs.straight.Course.stepped.Goals as goal

pub overflow_add-at-else-self-steps : goal.overflow_add-at-else-self-steps
overflow_add-at-else-self-steps c =
    let s = c.args.self in
    let lt = up_fits s.from s.to c.args.done c.args.left s.at s.past c.requires.some c.requires.reached (omega arith) (omega arith) in
    omega arith

pub returns-then-self-less-clause-reached : goal.returns-then-self-less-clause-reached
returns-then-self-less-clause-reached c =
    let s = c.args.self in
    stepped_down s.from s.to c.args.done c.args.left s.at s.past c.requires.some c.requires.reached (omega arith) (omega arith)
