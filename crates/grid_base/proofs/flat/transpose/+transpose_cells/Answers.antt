use Rattle.std.proofs.Common.{◌≡◌, ◌*◌, ◌+◌, ◌-◌, refl, ap, arith, add-mul}
use Rattle.grid_base.proofs.Lemmas.{in_place_by_halves, in_place_back}
use Rattle.grid_base.proofs.flat.transpose.+transpose_cells.Goals as goal

pub returns-then-width-lines : goal.returns-then-width-lines
returns-then-width-lines g t c =
    let part = c.first_part-part.result in
    let all : part + (c.args.lines - part) ≡ c.args.lines = omega (arith, c.first_part-part.ensures.less) in
    let split : part * c.args.width + (c.args.lines - part) * c.args.width ≡ c.args.lines * c.args.width = omega (arith, add-mul part (c.args.lines - part) c.args.width, ap (λ x. x * c.args.width) all) in
    in_place_by_halves _ part (c.args.lines - part) _ _ _ _ _ _ _ _ all (omega (arith, c.split_at_mut-front.ensures.front_len))
    (omega (arith, split, c.split_at_mut-front.ensures.back_len, c.requires.cells)) c.split_at_mut-front.ensures.value refl c.transpose_cells.ensures c.transpose_cells-then-width-lines.ensures c.weave.ensures

pub returns-else-width-lines : goal.returns-else-width-lines
returns-else-width-lines g t c =
    let part = c.first_part-part-else-width-lines.result in
    let all : part + (c.args.width - part) ≡ c.args.width = omega (arith, c.first_part-part-else-width-lines.ensures.less) in
    let split : part * c.args.lines + (c.args.width - part) * c.args.lines ≡ c.args.width * c.args.lines = omega (arith, add-mul part (c.args.width - part) c.args.lines, ap (λ x. x * c.args.lines) all) in
    let first = in_place_back _ _ _ _ c.transpose_cells-else-width-lines.ensures in
    let second = in_place_back _ _ _ _ c.transpose_cells-else-width-lines-2.ensures in
    in_place_back _ _ _ _ (in_place_by_halves _ part (c.args.width - part) _ _ _ _ _ _ _ _ all
    (omega (arith, c.split_at_mut-front-else-width-lines.ensures.front_len, c.transpose_cells-else-width-lines.ensures.lengths))
    (omega (arith, split, c.split_at_mut-front-else-width-lines.ensures.back_len, c.transpose_cells-else-width-lines-2.ensures.lengths, c.requires.cells, c.unweave.ensures.lengths))
    refl c.split_at_mut-front-else-width-lines.ensures.value first second c.unweave.ensures)
