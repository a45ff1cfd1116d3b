use Rattle.std.proofs.Common.{◌≡◌, ◌+◌, ◌*◌, ◌≤◌, arith, ap}
use Rattle.grid_base.proofs.Lemmas.{bringing_none, bringing_more, bringing_end}
use Rattle.grid_base.proofs.flat.groups.weave_singly.Goals as goal

pub loop-line-init : goal.loop-line-init
loop-line-init g c = bringing_none _ _ _ _ _ c.args.groups.within

pub loop-line-preserved : goal.loop-line-preserved
loop-line-preserved g c =
    let line : c.loop-line.line + 1 ≤ c.args.groups.lines = omega arith in
    let wide = ap (λ v. c.loop-line.line * (c.args.groups.width + v)) c.requires.single in
    let few = ap (λ v. c.loop-line.line * v) c.requires.single in
    bringing_more _ _ _ _ c.loop-line.line _ _ _ _ _ c.requires.single c.args.groups.within line (omega (arith, wide)) (omega (arith, wide, few)) c.loop-line.invariant c.exchange_at_once.ensures

pub returns : goal.returns
returns g c =
    let all : c.loop-line.line ≡ c.args.groups.lines = omega arith in
    bringing_end _ _ _ _ _ _ _ c.args.groups.within all c.loop-line.invariant
