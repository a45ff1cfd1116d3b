use Rattle.std.proofs.Common.{◌≡◌, ◌+◌, ◌-◌, ◌*◌, ◌≤◌, refl, ap, arith, mul-le-mul_right}
use Rattle.grid_base.proofs.Lemmas.{times_less, first_line, weaving_run, weaving_end}
use Rattle.grid_base.proofs.flat.groups.weave_in_turn.Goals as goal

pub loop-line-preserved : goal.loop-line-preserved
loop-line-preserved g c =
    let line : c.loop-line.line - 1 + 1 ≤ c.args.groups.lines = omega arith in
    let some = times_less c.loop-line.line c.args.groups.width (omega arith) in
    let before : (c.loop-line.line - 1) * c.args.groups.width + c.args.groups.width ≤ c.args.groups.lines * c.args.groups.width =
    omega (arith, mul-le-mul_right c.args.groups.width line) in
    record {
      run = weaving_run _ _ _ _ _ (c.loop-line.line - 1) _ _ _ _ _ _ (omega arith) c.args.groups.within (omega arith) refl (omega arith) (omega arith) refl c.loop-line.invariant.run c.exchange_blocks.ensures;
      within = omega arith;
      place = omega arith;
    }

pub returns : goal.returns
returns g c =
    let none : c.loop-line.line ≡ 0 = omega arith in
    let gone = ap (λ v. v * c.args.groups.width) none in
    weaving_end _ _ _ _ _ _ _ _ c.args.groups.within none
    (λ some. let reach = first_line c.args.groups.lines c.args.groups.width some in omega arith)
    c.loop-line.invariant.run
