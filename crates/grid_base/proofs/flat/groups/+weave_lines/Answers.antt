use Rattle.std.proofs.Common.{rules, ◌≡◌, ◌+◌, ◌*◌, ◌<◌, length, ◌-◌, ◌/◌, refl, arith}
use Rattle.grid_base.proofs.Lemmas.{woven_by_halves, woven_in_place, whole_of_halves}
use Rattle.grid_base.proofs.flat.groups.+weave_lines.Goals as goal

pub exchange_blocks-requires-clause-within : goal.exchange_blocks-requires-clause-within
exchange_blocks-requires-clause-within g t c =
    omega (arith, whole_of_halves c.args.groups.lines c.args.groups.width, whole_of_halves c.args.groups.lines c.args.groups.count)

pub exchange_blocks-requires-clause-fits : goal.exchange_blocks-requires-clause-fits
exchange_blocks-requires-clause-fits g t c =
    omega (arith, c.args.groups.fits, whole_of_halves c.args.groups.lines c.args.groups.width, whole_of_halves c.args.groups.lines c.args.groups.count)

pub weave_lines-requires-in-ByHalves : goal.weave_lines-requires-in-ByHalves
weave_lines-requires-in-ByHalves g t c κs within =
    let e = c.in_lines-in-ByHalves.ensures in
    let two = c.in-ByHalves.ensures.halves refl in
    let whole = whole_of_halves c.args.groups.lines (c.args.groups.width + c.args.groups.count) in
    let rest : c.in_lines-in-ByHalves.result.lines < t = omega arith in
    let cells : length c.split_at_mut-front.result.1.now ≡ c.in_lines-in-ByHalves.result.lines * (c.in_lines-in-ByHalves.result.width + c.in_lines-in-ByHalves.result.count) =
    rw (e.lines, e.width, e.count) (omega (arith, c.split_at_mut-front.ensures.back_len, c.exchange_blocks.ensures.length_stays)) in
    search rules

pub returns-in-ByHalves : goal.returns-in-ByHalves
returns-in-ByHalves g t c =
    let front = c.in_lines.ensures in
    let back = c.in_lines-in-ByHalves.ensures in
    woven_by_halves _ (c.args.groups.lines / 2) (c.args.groups.lines - c.args.groups.lines / 2) _ _ _ _ c.exchange_blocks.new.cells _ _ _ _ _ (omega arith) c.args.groups.within
    (omega (arith, c.split_at_mut-front.ensures.front_len)) c.split_at_mut-front.ensures.value refl c.exchange_blocks.ensures
    (rw (front.lines, front.width, front.at, front.count) at c.weave_lines.ensures) (rw (back.lines, back.width, back.at, back.count) at c.weave_lines-in-ByHalves.ensures)

pub returns-in-Nothing : goal.returns-in-Nothing
returns-in-Nothing g t c = woven_in_place _ _ _ _ _ c.args.groups.within (c.in-Nothing.ensures.nothing refl)
