use Rattle.std.proofs.Common.{◌≡◌, ◌+◌, ◌-◌, ◌*◌, ◌≤◌, arith, ap}
use Rattle.grid_base.proofs.Lemmas.{sending_none, sending_more, sending_end}
use Rattle.grid_base.proofs.flat.groups.unweave_singly.Goals as goal

pub loop-line-init : goal.loop-line-init
loop-line-init g c = record { run = sending_none _ _ _ _ _; within = omega arith }

pub loop-line-preserved : goal.loop-line-preserved
loop-line-preserved g c =
    let h = c.loop-line.line - 1 in
    let is_line : c.loop-line.line ≡ h + 1 = omega arith in
    let line : h + 1 ≤ c.args.groups.lines = omega (arith, c.loop-line.invariant.within) in
    let wide = ap (λ v. h * (c.args.groups.width + v)) c.requires.single in
    let few = ap (λ v. h * v) c.requires.single in
    record {
      run = sending_more _ _ _ _ _ h _ _ _ _ _ is_line c.requires.single c.args.groups.within line (omega (arith, wide)) (omega (arith, wide, few)) c.loop-line.invariant.run c.exchange_at_once.ensures;
      within = omega (arith, c.loop-line.invariant.within);
    }

pub returns : goal.returns
returns g c =
    let none : c.loop-line.line ≡ 0 = omega arith in
    sending_end _ _ _ _ _ _ _ c.args.groups.within none c.loop-line.invariant.run
