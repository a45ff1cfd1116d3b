use Rattle.std.proofs.Common.{rules, ◌≡◌, refl, length, arith}
use Rattle.grid.proofs.ConversionLemmas.{refused}
use Rattle.grid.proofs.convert.GridTryFromTuple2VecUsize.try_from.Goals as goal

pub returns-else-can_cut : goal.returns-else-can_cut
returns-else-can_cut g c =
    let len : c.len-len.result ≡ length c.args.arg1.0.items = omega arith in
    (refused _ _ _ _ len c.can_cut.ensures.1 c.if-can_cut.false, len, refl)

pub returns-then-can_cut : goal.returns-then-can_cut
returns-then-can_cut g c = search rules
