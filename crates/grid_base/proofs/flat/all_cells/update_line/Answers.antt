use Rattle.std.proofs.Common.{rules, ◌≡◌, ◌<◌, ◌+◌, ◌*◌, ℕ, Some, arith, ap, refl, sym, ◌∙◌, length, slice_get}
use Rattle.grid_base.proofs.Common.{common_steps, slice_get_within, slice_get_read, positions_of, lines_of}
use Rattle.grid_base.proofs.Lemmas.{get_along, length-places, updated_cell}
use Rattle.grid_base.proofs.flat.all_cells.update_line.Goals as goal

pub bounds-cells-start : goal.bounds-cells-start
bounds-cells-start g c =
    let all = positions_of c.args.layout in
    let w = c.lines-width.result.1 in
    let here = get_along c.args.layout.order c.args.layout.rows c.args.layout.cols c.args.line c.loop-k.k (c.args.line * w) (c.args.line * w + c.loop-k.k) _ c.at-at.result c.args.layout.size c.requires.line c.lines-width.ensures c.loop-k-test.true (ap (λ (p : ℕ × ℕ). c.args.line * p.1) c.lines-width.ensures) refl c.at-at.ensures in
    omega (arith, slice_get_within all _ _ here, length-places c.args.layout.order c.args.layout.rows c.args.layout.cols c.args.layout.size, c.requires.cells, c.loop-k.invariant.len)

pub bounds-cells-start-in-loop-k : goal.bounds-cells-start-in-loop-k
bounds-cells-start-in-loop-k g c =
    let all = positions_of c.args.layout in
    let w = c.lines-width.result.1 in
    let here = get_along c.args.layout.order c.args.layout.rows c.args.layout.cols c.args.line c.loop-k.k (c.args.line * w) (c.args.line * w + c.loop-k.k) _ c.at-at.result c.args.layout.size c.requires.line c.lines-width.ensures c.loop-k-test.true (ap (λ (p : ℕ × ℕ). c.args.line * p.1) c.lines-width.ensures) refl c.at-at.ensures in
    omega (arith, slice_get_within all _ _ here, length-places c.args.layout.order c.args.layout.rows c.args.layout.cols c.args.layout.size, c.requires.cells, c.loop-k.invariant.len)

pub f-requires : goal.f-requires
f-requires g c =
    let all = positions_of c.args.layout in
    let cells = c.loop-k.cells in
    let w = c.lines-width.result.1 in
    let i = c.args.line * w + c.loop-k.k in
    let here : slice_get all i ≡ Some c.at-at.result = get_along c.args.layout.order c.args.layout.rows c.args.layout.cols c.args.line c.loop-k.k (c.args.line * w) i _ c.at-at.result c.args.layout.size c.requires.line c.lines-width.ensures c.loop-k-test.true (ap (λ (p : ℕ × ℕ). c.args.line * p.1) c.lines-width.ensures) refl c.at-at.ensures in
    let lt : i < length cells = omega (arith, slice_get_within all _ _ here, length-places c.args.layout.order c.args.layout.rows c.args.layout.cols c.args.layout.size, c.requires.cells, c.loop-k.invariant.len) in
    let shown : slice_get cells i ≡ Some c.index-cells-start.result = slice_get_read cells (length cells) i _ refl lt c.index-cells-start.is in
    c.requires.calls.at i _ _ (omega (arith, ap (λ (p : ℕ × ℕ). c.args.line * p.1) c.lines-width.ensures)) here (sym (c.loop-k.invariant.behind i (omega arith)) ∙ (shown ∙ ap Some c.index-cells-start.is))

pub loop-k-preserved : goal.loop-k-preserved
loop-k-preserved g c =
    let all = positions_of c.args.layout in
    let cells = c.loop-k.cells in
    let w = c.lines-width.result.1 in
    let i = c.args.line * w + c.loop-k.k in
    let here : slice_get all i ≡ Some c.at-at.result = get_along c.args.layout.order c.args.layout.rows c.args.layout.cols c.args.line c.loop-k.k (c.args.line * w) i _ c.at-at.result c.args.layout.size c.requires.line c.lines-width.ensures c.loop-k-test.true (ap (λ (p : ℕ × ℕ). c.args.line * p.1) c.lines-width.ensures) refl c.at-at.ensures in
    let lt : i < length cells = omega (arith, slice_get_within all _ _ here, length-places c.args.layout.order c.args.layout.rows c.args.layout.cols c.args.layout.size, c.requires.cells, c.loop-k.invariant.len) in
    let shown : slice_get cells i ≡ Some c.index-cells-start.result = slice_get_read cells (length cells) i _ refl lt c.index-cells-start.is in
    updated_cell _ all c.args.cells.now cells (c.args.line * w) i _ c.at-at.result _ c.f.result c.loop-k.invariant (omega arith) (omega arith) here (sym (c.loop-k.invariant.behind i (omega arith)) ∙ (shown ∙ ap Some c.index-cells-start.is)) (record { shown = _; shows = refl; says = c.f.ensures })

pub offset_bounds-cells-start : goal.offset_bounds-cells-start
offset_bounds-cells-start g c = let within = bounds-cells-start g c in search rules

pub offset_bounds-cells-start-in-loop-k : goal.offset_bounds-cells-start-in-loop-k
offset_bounds-cells-start-in-loop-k g c = let within = bounds-cells-start-in-loop-k g c in search rules

pub returns : goal.returns
returns g c =
    let w = (lines_of c.args.layout).1 in
    let wide : c.lines-width.result.1 ≡ w = ap (λ (p : ℕ × ℕ). p.1) c.lines-width.ensures in
    let start : c.args.line * c.lines-width.result.1 ≡ c.args.line * w = ap (λ x. c.args.line * x) wide in
    let end : c.args.line * c.lines-width.result.1 + c.loop-k.k ≡ (c.args.line + 1) * w = omega (arith, start, wide, c.loop-k-test.false, c.loop-k.auto.k-end) in
    rw (end, start) at c.loop-k.invariant

pub overflow_add-start : goal.overflow_add-start
overflow_add-start g c = let h = bounds-cells-start g c in omega arith

pub overflow_add-start-in-loop-k : goal.overflow_add-start-in-loop-k
overflow_add-start-in-loop-k g c = let h = bounds-cells-start-in-loop-k g c in omega arith

pub overflow_mul-start : goal.overflow_mul-start
overflow_mul-start g c = grind (arith, common_steps)
