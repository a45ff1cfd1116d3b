use Rattle.std.proofs.Common.{◌≡◌, ◌+◌, ◌*◌, ◌≤◌, refl, ap, arith, ⊎_elim, mul-le-mul_right}
use Rattle.grid_base.proofs.Common.{cases_eq}
use Rattle.grid_base.proofs.Lemmas.{moved_forward, closing_none, closing_run, closing_end, first_line}
use Rattle.grid_base.proofs.flat.groups.close_lines.Goals as goal

pub loop-line-init : goal.loop-line-init
loop-line-init g c =
    record {
      run = closing_none _ _ _ _ _ c.args.groups.within;
      place = λ some. omega (arith, first_line c.args.groups.lines c.args.groups.width some);
      none = λ _. refl;
      symmetry = c.none-swaps.ensures.symmetry;
      shift = omega (arith, c.none-swaps.ensures.shift);
    }

pub loop-line-preserved : goal.loop-line-preserved
loop-line-preserved g c =
    let line : c.loop-line.line + 1 ≤ c.args.groups.lines = omega arith in
    let more = mul-le-mul_right c.args.groups.width line in
    let place = c.loop-line.invariant.place (omega arith) in
    let here : c.loop-line.start ≡ c.args.groups.at + c.loop-line.line * c.args.groups.width = omega arith in
    let some = first_line (c.loop-line.line + 1) c.args.groups.count (omega arith) in
    let groups = mul-le-mul_right c.args.groups.count line in
    let moved = moved_forward _ _ _ _ _ (omega arith) (omega (arith, c.loop-line.invariant.run.length_stays)) c.move_forward-swaps.ensures.cells in
    record {
      run = closing_run _ _ _ _ (c.loop-line.line + 1) _ _ _ _ _ _ c.args.groups.within (omega arith) (omega arith) c.min-stretch.ensures c.loop-line.invariant.run moved refl;
      place = λ _. omega arith;
      none = λ e. absurd (omega arith);
      symmetry = omega arith;
      shift = omega arith;
    }

pub returns-clause-lines : goal.returns-clause-lines
returns-clause-lines g c =
    let all : c.loop-line.line ≡ c.args.groups.lines = omega arith in
    let same = ap (λ v. v * c.args.groups.width) all in
    closing_end _ _ _ _ _ _ _ c.args.groups.within
    (⊎_elim (λ none. omega (arith, ap (λ v. v * c.args.groups.width) none)) (λ some_not. let place = c.loop-line.invariant.place (omega arith) in omega arith) (cases_eq c.args.groups.lines 0))
    c.loop-line.invariant.run
