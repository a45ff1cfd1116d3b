use Rattle.std.proofs.Common.{arith}
use Rattle.grid_rays.proofs.along.alike_along.Goals as goal

pub returns-clause-alike : goal.returns-clause-alike
returns-clause-alike g c =
    let a = rw c.view.ensures at c.alike_in.ensures.alike in
    let small = c.alike_in.ensures.small c.size.ensures.small.0 c.size.ensures.small.1 in
    record { each = a.each; ends = a.ends (omega (arith, small)) }
