use Rattle.std.proofs.Common.{◌-◌, ◌*◌, ap, arith, reverse, ◌∙◌}
use Rattle.grid_base.proofs.Lemmas.{side_by_side, side_reversed}
use Rattle.grid_base.proofs.flat.line_iter.Cells.over.Goals as goal

pub returns-then-count-eq1 : goal.returns-then-count-eq1
returns-then-count-eq1 g c =
    let a = c.args in
    let one = c.if-count-eq1.true in
    c.iter.ensures.rest
    ∙ side_by_side a.start a.count _ a.cells.now (omega (arith, one)) (omega (arith, c.requires.within, one)) a.stride a.backwards (λ many. absurd (omega (arith, many, one))) (λ many. absurd (omega (arith, many, one)))

pub returns-then-backwards : goal.returns-then-backwards
returns-then-backwards g c =
    let a = c.args in
    let step = c.if-stride-ne1.false in
    ap reverse c.iter-then-backwards.ensures.rest
    ∙ side_reversed a.start a.count _ a.cells.now (omega arith) (omega (arith, c.requires.within, ap (λ n. (a.count - 1) * n) step)) a.stride a.backwards step c.if-backwards.true

pub returns-else-backwards : goal.returns-else-backwards
returns-else-backwards g c =
    let a = c.args in
    let step = c.if-stride-ne1.false in
    c.iter-else-backwards.ensures.rest
    ∙ side_by_side a.start a.count _ a.cells.now (omega arith) (omega (arith, c.requires.within, ap (λ n. (a.count - 1) * n) step)) a.stride a.backwards (λ many. step) (λ many. c.if-backwards.false)
