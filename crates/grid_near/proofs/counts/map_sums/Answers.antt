use Rattle.std.proofs.Common.{◌≡◌, ◌<◌, ℕ, arith, ap, sym, ◌∙◌, length, vec_len}
use Rattle.grid_near.proofs.Common.{common_steps, positions_of, lines_of, zip_nothing}
use Rattle.grid_near.proofs.Lemmas.{side_first, side_second, board_passed, all_placed}
use Rattle.grid_near.proofs.counts.map_sums.Goals as goal

pub returns-then-lines-eq0-clause-cells : goal.returns-then-lines-eq0-clause-cells
returns-then-lines-eq0-clause-cells g c =
    let b = c.args.board.now in
    let none : 0 ≡ length b.cells.now = board_passed b 0 0 (omega (arith, c.if-lines-eq0.true, ap (λ (p : ℕ × ℕ). p.0) c.lines-lines.ensures)) (omega arith) in
    record { places = rw (zip_nothing (positions_of b.layout) b.cells.now (sym none), c.new.ensures.items) tt }

pub loop-line-init : goal.loop-line-init
loop-line-init g c =
    let w : c.lines-lines.result.1 ≡ (lines_of c.args.board.now.layout).1 = ap (λ (p : ℕ × ℕ). p.1) c.lines-lines.ensures in
    record {
      up_len = grind (arith, common_steps, w, c.marked-up.ensures.len, c.in_ok-up.ensures.len);
      mid_len = grind (arith, common_steps, w, c.marked-mid.ensures.len, c.in_ok-mid.ensures.len);
      down_len = grind (arith, common_steps, w, c.in_ok-down.ensures.len);
      up = λ lt. c.marked-up.ensures.marks;
      mid = λ lt. c.marked-mid.ensures.marks;
      room = omega (arith, c.in_ok-made.ensures.capacity);
      passed = omega (arith, c.in_ok-made.ensures.len);
      answers = rw (c.in_ok-made.ensures.len, c.in_ok-made.ensures.items) tt;
    }

pub push_sums-made-requires-clause-marks : goal.push_sums-made-requires-clause-marks
push_sums-made-requires-clause-marks g c =
    let i = c.loop-line.invariant in
    let lt : c.loop-line.line < (lines_of c.args.board.now.layout).0 = omega (arith, c.loop-line-test.true, ap (λ (p : ℕ × ℕ). p.0) c.lines-lines.ensures) in
    record {
      before = rw c.as_slice.ensures.value (i.up lt);
      here = rw c.as_slice-in-loop-line.ensures.value (i.mid lt);
      after = rw c.as_slice-in-loop-line-2.ensures.value c.marked-down.ensures.marks;
      before_len = rw c.as_slice.ensures.value i.up_len;
      here_len = rw c.as_slice-in-loop-line.ensures.value i.mid_len;
      after_len = rw c.as_slice-in-loop-line-2.ensures.value (c.marked-down.ensures.len ∙ i.down_len);
    }

pub loop-line-preserved : goal.loop-line-preserved
loop-line-preserved g c =
    let b = c.args.board.now in
    let i = c.loop-line.invariant in
    let p = c.push_sums-made.ensures in
    let n = (lines_of b.layout).0 in
    let lt : c.loop-line.line < n = omega (arith, c.loop-line-test.true, ap (λ (p : ℕ × ℕ). p.0) c.lines-lines.ensures) in
    record {
      up_len = i.mid_len;
      mid_len = c.marked-down.ensures.len ∙ i.down_len;
      down_len = i.up_len;
      up = λ more. rw (side_first b.edges n c.loop-line.line more) at (i.mid lt);
      mid = λ more. rw (side_second b.edges n c.loop-line.line more) at c.marked-down.ensures.marks;
      room = omega (arith, p.room, i.room);
      passed = grind (arith, p.passed, i.passed);
      answers = p.answers.places;
    }

pub returns-clause-len : goal.returns-clause-len
returns-clause-len g c =
    let b = c.args.board.now in
    let last : c.loop-line.line ≡ (lines_of b.layout).0 = omega (arith, c.loop-line-test.false, c.loop-line.auto.line-end, ap (λ (p : ℕ × ℕ). p.0) c.lines-lines.ensures) in
    let all : vec_len c.loop-line.made ≡ length b.cells.now = board_passed b _ _ last c.loop-line.invariant.passed in
    grind (arith, common_steps, all)

pub returns-clause-cells : goal.returns-clause-cells
returns-clause-cells g c =
    let b = c.args.board.now in
    let last : c.loop-line.line ≡ (lines_of b.layout).0 = omega (arith, c.loop-line-test.false, c.loop-line.auto.line-end, ap (λ (p : ℕ × ℕ). p.0) c.lines-lines.ensures) in
    record { places = rw (all_placed b _ (board_passed b _ _ last c.loop-line.invariant.passed)) at c.loop-line.invariant.answers }
