use Rattle.std.proofs.Common.{◌≡◌, ◌+◌, ◌*◌, ◌≤◌, refl, ap, arith, mul-le-mul_right}
use Rattle.grid_base.proofs.Lemmas.{first_line, unweaving_none, unweaving_run, unweaving_end}
use Rattle.grid_base.proofs.flat.groups.unweave_in_turn.Goals as goal

pub loop-line-init : goal.loop-line-init
loop-line-init g c =
    record {
      run = unweaving_none _ _ _ _ _ c.args.groups.within;
      place = λ some. omega (arith, first_line c.args.groups.lines c.args.groups.width some);
    }

pub loop-line-preserved : goal.loop-line-preserved
loop-line-preserved g c =
    let line : c.loop-line.line + 1 ≤ c.args.groups.lines = omega arith in
    let more = mul-le-mul_right c.args.groups.width line in
    let place = c.loop-line.invariant.place (omega arith) in
    let here : c.loop-line.start ≡ c.args.groups.at + c.loop-line.line * c.args.groups.width = omega arith in
    record {
      run = unweaving_run _ _ _ _ c.loop-line.line _ _ _ _ _ _ c.args.groups.within here (omega arith) c.min-stretch.ensures c.loop-line.invariant.run c.exchange_blocks.ensures refl;
      place = λ _. omega arith;
    }

pub returns : goal.returns
returns g c =
    let all : c.loop-line.line ≡ c.args.groups.lines = omega arith in
    let same = ap (λ v. v * c.args.groups.width) all in
    unweaving_end _ _ _ _ _ _ _ _ c.args.groups.within all (λ some. let place = c.loop-line.invariant.place some in omega arith) c.loop-line.invariant.run
