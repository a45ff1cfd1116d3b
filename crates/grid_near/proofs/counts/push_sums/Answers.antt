use Rattle.std.proofs.Common.{rules, ◌≡◌, ◌*◌, ◌+◌, ℕ, arith, ap, refl, sym, ◌∙◌, vec_len}
use Rattle.grid_near.proofs.Common.{slice_get_within, get_or_from_slice_get, lines_of, along, answers_more, placed_cells}
use Rattle.grid_near.proofs.Lemmas.{within_board, cell_placed, board_summed}
use Rattle.grid_near.proofs.counts.push_sums.Goals as goal

pub bounds-cells-start : goal.bounds-cells-start
bounds-cells-start g c =
    let e = c.lines-width.ensures in
    omega (arith, within_board c.args.board.now c.args.line c.loop-k.k c.requires.line (rw e at c.loop-k-test.true), ap (λ (p : ℕ × ℕ). c.args.line * p.1) c.lines-width.ensures)

pub rule-requires : goal.rule-requires
rule-requires g c =
    let b = c.args.board.now in
    let l = c.args.line in
    let k = c.loop-k.k in
    let i = vec_len c.loop-k.made in
    let e = c.lines-width.ensures in
    let lk = rw e at c.loop-k-test.true in
    let passed : i ≡ l * (lines_of b.layout).1 + k = omega (arith, c.requires.passed, c.loop-k.invariant.passed) in
    let here = cell_placed b l k i c.index-cells-start.result c.requires.line lk passed (rw e at c.index-cells-start.is) in
    let n = board_summed _ b l k _ _ _ c.requires.line lk c.requires.marks in
    c.requires.calls.at i (along b.layout.order l k) _ (slice_get_within (placed_cells b) i _ here) (sym (get_or_from_slice_get (placed_cells b) i _ _ here)) c.sum_around-sum.result c.sum_around-sum.ensures.most (rw c.sum_around-sum.ensures.sum n)

pub push_reserved-requires : goal.push_reserved-requires
push_reserved-requires g c =
    omega (arith, within_board c.args.board.now c.args.line c.loop-k.k c.requires.line (rw c.lines-width.ensures at c.loop-k-test.true), c.requires.passed, c.requires.room, c.loop-k.invariant.passed, c.loop-k.invariant.room)

pub loop-k-preserved : goal.loop-k-preserved
loop-k-preserved g c =
    let b = c.args.board.now in
    let l = c.args.line in
    let k = c.loop-k.k in
    let i = vec_len c.loop-k.made in
    let e = c.lines-width.ensures in
    let p = c.push_reserved.ensures in
    let lk = rw e at c.loop-k-test.true in
    let passed : i ≡ l * (lines_of b.layout).1 + k = omega (arith, c.requires.passed, c.loop-k.invariant.passed) in
    let here = cell_placed b l k i c.index-cells-start.result c.requires.line lk passed (rw e at c.index-cells-start.is) in
    let n = board_summed _ b l k _ _ _ c.requires.line lk c.requires.marks in
    record {
      room = p.capacity ∙ c.loop-k.invariant.room;
      passed = omega (arith, p.len, c.loop-k.invariant.passed);
      answers = rw (p.len, p.items) (answers_more _ (placed_cells b) _ _ _ c.rule.result here c.loop-k.invariant.answers (record { shown = _; shows = refl; says = (c.sum_around-sum.result, rw c.sum_around-sum.ensures.sum n, c.rule.ensures) }));
    }

pub offset_bounds-cells-start : goal.offset_bounds-cells-start
offset_bounds-cells-start g c = let h = bounds-cells-start g c in search rules
