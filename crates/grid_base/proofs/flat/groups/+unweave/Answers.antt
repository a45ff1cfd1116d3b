use Rattle.std.proofs.Common.{rules, ◌≡◌, ◌+◌, ◌*◌, ◌<◌, length, ◌++◌, ◌-◌, ◌/◌, refl, arith, length-append}
use Rattle.grid_base.proofs.Lemmas.{woven_by_halves, woven_in_place, exchanged_back, whole_of_halves}
use Rattle.grid_base.proofs.flat.groups.+unweave.Goals as goal

pub unweave-requires-in-ByHalves : goal.unweave-requires-in-ByHalves
unweave-requires-in-ByHalves g t c κs within =
    let e = c.in_lines-in-ByHalves.ensures in
    let two = c.in-ByHalves.ensures.halves refl in
    let whole = whole_of_halves c.args.groups.lines (c.args.groups.width + c.args.groups.count) in
    let rest : c.in_lines-in-ByHalves.result.lines < t = omega arith in
    let cells : length c.split_at_mut-front.result.1.now ≡ c.in_lines-in-ByHalves.result.lines * (c.in_lines-in-ByHalves.result.width + c.in_lines-in-ByHalves.result.count) =
    rw (e.lines, e.width, e.count) (omega (arith, c.split_at_mut-front.ensures.back_len)) in
    search rules

pub exchange_blocks-requires-clause-within : goal.exchange_blocks-requires-clause-within
exchange_blocks-requires-clause-within g t c =
    omega (
      arith,
      length-append c.unweave.new.cells c.unweave-in-ByHalves.new.cells,
      c.unweave.ensures.lengths,
      c.unweave-in-ByHalves.ensures.lengths,
      c.split_at_mut-front.ensures.front_len,
      c.split_at_mut-front.ensures.back_len,
      whole_of_halves c.args.groups.lines c.args.groups.width,
      whole_of_halves c.args.groups.lines c.args.groups.count,
    )

pub exchange_blocks-requires-clause-fits : goal.exchange_blocks-requires-clause-fits
exchange_blocks-requires-clause-fits g t c =
    omega (arith, c.args.groups.fits, whole_of_halves c.args.groups.lines c.args.groups.width, whole_of_halves c.args.groups.lines c.args.groups.count)

pub returns-in-ByHalves : goal.returns-in-ByHalves
returns-in-ByHalves g t c =
    let front = c.in_lines.ensures in
    let back = c.in_lines-in-ByHalves.ensures in
    woven_by_halves _ (c.args.groups.lines / 2) (c.args.groups.lines - c.args.groups.lines / 2) _ _ _ _ (c.unweave.new.cells ++ c.unweave-in-ByHalves.new.cells) _ _ _ _ _ (omega arith) c.args.groups.within
    (omega (arith, c.split_at_mut-front.ensures.front_len, c.unweave.ensures.lengths)) refl c.split_at_mut-front.ensures.value (exchanged_back _ _ _ _ _ c.exchange_blocks.ensures)
    (rw (front.lines, front.width, front.at, front.count) at c.unweave.ensures) (rw (back.lines, back.width, back.at, back.count) at c.unweave-in-ByHalves.ensures)

pub returns-in-Nothing : goal.returns-in-Nothing
returns-in-Nothing g t c = woven_in_place _ _ _ _ _ c.args.groups.within (c.in-Nothing.ensures.nothing refl)
