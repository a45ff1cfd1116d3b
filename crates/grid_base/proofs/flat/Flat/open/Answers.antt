use Rattle.std.proofs.Common.{◌≡◌, ◌+◌, ◌-◌, ◌*◌, ◌≤◌, ◌∙◌, refl, ap, arith, mul-le-mul_right}
use Rattle.grid_base.proofs.Common.{common_steps}
use Rattle.grid_base.proofs.Lemmas.{moved_back, opening_none, opening_run, opening_end, times_less, first_line}
use Rattle.grid_base.proofs.flat.Flat.open.Goals as goal

pub loop-line-init : goal.loop-line-init
loop-line-init g c =
    record { run = rw (c.as_mut_slice-cells.ensures.value ∙ c.self.view_is) (opening_none _ _ _ c.args.self.now refl); within = omega arith; place = omega arith; symmetry = c.none-swaps.ensures.symmetry; shift = omega (arith, c.none-swaps.ensures.shift) }

pub move_back-swaps-requires : goal.move_back-swaps-requires
move_back-swaps-requires g c =
    let line : c.loop-line.line - 1 + 1 ≤ c.args.groups.lines = omega arith in
    let some = first_line (c.loop-line.line - 1 + 1) c.args.groups.count (omega arith) in
    let groups = mul-le-mul_right c.args.groups.count line in
    let lines = mul-le-mul_right c.args.groups.width line in
    (omega (arith, c.loop-line.invariant.run.length_stays), omega arith, omega arith, omega arith)

pub loop-line-preserved : goal.loop-line-preserved
loop-line-preserved g c =
    let line : c.loop-line.line - 1 + 1 ≤ c.args.groups.lines = omega arith in
    let some = times_less c.loop-line.line c.args.groups.width (omega arith) in
    let before : (c.loop-line.line - 1) * c.args.groups.width + c.args.groups.width ≤ c.args.groups.lines * c.args.groups.width =
    omega (arith, mul-le-mul_right c.args.groups.width line) in
    let grows = first_line (c.loop-line.line - 1 + 1) c.args.groups.count (omega arith) in
    let groups = mul-le-mul_right c.args.groups.count line in
    let moved = moved_back _ _ _ _ _ (omega arith) (omega (arith, c.loop-line.invariant.run.length_stays)) c.move_back-swaps.ensures.cells in
    record {
      run = opening_run _ _ _ _ (c.loop-line.line - 1 + 1) _ _ _ _ _ _ c.args.groups.within c.requires.has_count c.requires.cells line (omega arith) (omega arith) (omega arith) refl c.loop-line.invariant.run moved;
      within = omega arith;
      place = omega arith;
      symmetry = omega arith;
      shift = omega arith;
    }

pub returns-clause-opened : goal.returns-clause-opened
returns-clause-opened g c =
    let reach = first_line c.args.groups.lines c.args.groups.width c.requires.has_lines in
    let none : c.loop-line.line ≡ 0 = omega arith in
    let gone = ap (λ v. v * c.args.groups.width) none in
    let h = opening_end _ _ _ _ _ _ _ c.requires.has_lines c.requires.has_width c.args.groups.within c.requires.cells c.loop-line.invariant.run (omega arith) in
    grind (arith, common_steps, h)
