use Rattle.std.proofs.Common.{rules, ◌≡◌, ◌<◌, ◌+◌, ◌*◌, ℕ, Some, arith, ap, refl, sym, ◌∙◌, length, vec_len, zip, slice_get}
use Rattle.grid_base.proofs.Common.{slice_get_within, slice_get_read, get_or_from_slice_get, positions_of}
use Rattle.grid_base.proofs.Lemmas.{answers_more, get_along, length-places, get-zip}
use Rattle.grid_base.proofs.flat.all_cells.push_mapped.Goals as goal

pub bounds-cells-start : goal.bounds-cells-start
bounds-cells-start g c =
    let all = positions_of c.args.layout in
    let at = c.at-at.result in
    let here : slice_get all (vec_len c.loop-k.mapped) ≡ Some at = get_along _ _ _ _ _ _ _ _ _ c.args.layout.size c.requires.line c.lines-width.ensures c.loop-k-test.true c.requires.passed c.loop-k.invariant.passed c.at-at.ensures in
    omega (arith, slice_get_within all _ at here, length-places c.args.layout.order c.args.layout.rows c.args.layout.cols c.args.layout.size, c.requires.table.0, c.requires.passed, c.loop-k.invariant.passed, ap (λ (p : ℕ × ℕ). c.args.line * p.1) c.lines-width.ensures)

pub f-requires : goal.f-requires
f-requires g c =
    let all = positions_of c.args.layout in
    let cells = c.args.cells.now in
    let at = c.at-at.result in
    let cell = c.index-cells-start.result in
    let here : slice_get all (vec_len c.loop-k.mapped) ≡ Some at = get_along _ _ _ _ _ _ _ _ _ c.args.layout.size c.requires.line c.lines-width.ensures c.loop-k-test.true c.requires.passed c.loop-k.invariant.passed c.at-at.ensures in
    let same : vec_len c.loop-k.mapped ≡ c.args.line * c.lines-width.result.1 + c.loop-k.k = omega (arith, c.requires.passed, c.loop-k.invariant.passed, ap (λ (p : ℕ × ℕ). c.args.line * p.1) c.lines-width.ensures) in
    let lt : c.args.line * c.lines-width.result.1 + c.loop-k.k < length cells = omega (arith, same, slice_get_within all _ at here, length-places c.args.layout.order c.args.layout.rows c.args.layout.cols c.args.layout.size, c.requires.table.0) in
    let shown : slice_get cells (vec_len c.loop-k.mapped) ≡ Some cell = ap (slice_get cells) same ∙ slice_get_read cells (length cells) _ cell refl lt c.index-cells-start.is in
    let both = get-zip all cells _ at cell here shown in
    c.requires.table.1.at _ at _ (slice_get_within (zip all cells) _ (at, cell) both) (sym (get_or_from_slice_get (zip all cells) _ (at, cell) (at, cell) both))

pub loop-k-preserved : goal.loop-k-preserved
loop-k-preserved g c =
    let all = positions_of c.args.layout in
    let cells = c.args.cells.now in
    let at = c.at-at.result in
    let cell = c.index-cells-start.result in
    let i = c.loop-k.invariant in
    let p = c.push_reserved.ensures in
    let here : slice_get all (vec_len c.loop-k.mapped) ≡ Some at = get_along _ _ _ _ _ _ _ _ _ c.args.layout.size c.requires.line c.lines-width.ensures c.loop-k-test.true c.requires.passed i.passed c.at-at.ensures in
    let same : vec_len c.loop-k.mapped ≡ c.args.line * c.lines-width.result.1 + c.loop-k.k = omega (arith, c.requires.passed, i.passed, ap (λ (p : ℕ × ℕ). c.args.line * p.1) c.lines-width.ensures) in
    let lt : c.args.line * c.lines-width.result.1 + c.loop-k.k < length cells = omega (arith, same, slice_get_within all _ at here, length-places c.args.layout.order c.args.layout.rows c.args.layout.cols c.args.layout.size, c.requires.table.0) in
    let shown : slice_get cells (vec_len c.loop-k.mapped) ≡ Some cell = ap (slice_get cells) same ∙ slice_get_read cells (length cells) _ cell refl lt c.index-cells-start.is in
    record {
      room = p.capacity ∙ i.room;
      passed = omega (arith, p.len, i.passed);
      answers = rw (p.len, p.items) (answers_more _ (zip all cells) _ _ (at, cell) c.f.result (get-zip all cells _ at cell here shown) i.answers (record { shown = _; shows = refl; says = c.f.ensures }));
    }

pub offset_bounds-cells-start : goal.offset_bounds-cells-start
offset_bounds-cells-start g c = let h = bounds-cells-start g c in search rules

pub push_reserved-requires : goal.push_reserved-requires
push_reserved-requires g c = let all = positions_of c.args.layout in
    let here : slice_get all (vec_len c.loop-k.mapped) ≡ Some c.at-at.result = get_along _ _ _ _ _ _ _ _ _ c.args.layout.size c.requires.line c.lines-width.ensures c.loop-k-test.true c.requires.passed c.loop-k.invariant.passed c.at-at.ensures in
    omega (arith, slice_get_within all _ _ here, length-places c.args.layout.order c.args.layout.rows c.args.layout.cols c.args.layout.size, c.requires.room, c.loop-k.invariant.room)
