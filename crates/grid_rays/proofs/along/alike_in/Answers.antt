use Rattle.std.proofs.Common.{◌≡◌, ℕ, ◌+◌, ◌<◌, min, Bool, true, false, not, sym, refl, arith}
use Rattle.std.proofs.lemmas.Bool.{false≢true}
use Rattle.grid_rays.specs.Steps.{HasSteps, Reaches}
use Rattle.grid_rays.proofs.AlongLemmas.{IsCounting-next, IsCounting-end, next_row, next_col}
use Rattle.grid_rays.proofs.along.alike_in.Goals as goal

is_true : (b : Bool) → false ≡ not b → b ≡ true
is_true true e = refl
is_true false e = absurd (false≢true e)

reaches : (size step at : ℕ × ℕ) (steps most left count : ℕ) → HasSteps size step at steps → left ≡ min steps most → count < left → Reaches size step at (count + 1)
reaches size step at steps most left count h is lt = h.each (count + 1) (omega arith) (omega (arith, is, lt))

pub overflow_sub-col : goal.overflow_sub-col
overflow_sub-col g c =
    rw c.step_of-down.ensures (next_col g.T.PartialEq.eq c.args.board.now.rows c.args.way c.args.at c.loop-count.count c.loop-count.row c.loop-count.col c.loop-count.invariant c.args.size.0 c.args.size.1 (reaches _ _ _ _ _ _ _ c.steps_to_edge.ensures.reaches c.min-left.ensures c.loop-count-test.true)).0

pub get_unchecked-requires : goal.get_unchecked-requires
get_unchecked-requires g c =
    let row = next_row g.T.PartialEq.eq c.args.board.now.rows c.args.way c.args.at c.loop-count.count c.loop-count.row c.loop-count.col c.loop-count.invariant c.args.size.0 c.args.size.1 (reaches _ _ _ _ _ _ _ c.steps_to_edge.ensures.reaches c.min-left.ensures c.loop-count-test.true) in
    let col = next_col g.T.PartialEq.eq c.args.board.now.rows c.args.way c.args.at c.loop-count.count c.loop-count.row c.loop-count.col c.loop-count.invariant c.args.size.0 c.args.size.1 (reaches _ _ _ _ _ _ _ c.steps_to_edge.ensures.reaches c.min-left.ensures c.loop-count-test.true) in
    rw c.step_of-down.ensures (omega (arith, row.1, c.requires.rows), omega (arith, col.1, c.requires.cols))

pub loop-count-preserved : goal.loop-count-preserved
loop-count-preserved g c =
    let t = c.args.board.now.rows in
    let there = rw c.step_of-down.ensures at c.get_unchecked.ensures in
    rw c.step_of-down.ensures (IsCounting-next g.T.PartialEq.eq t c.args.way c.args.at c.loop-count.count c.loop-count.row c.loop-count.col c.loop-count.invariant c.args.size.0 c.args.size.1 (reaches _ _ _ _ _ _ _ c.steps_to_edge.ensures.reaches c.min-left.ensures c.loop-count-test.true) c.in-Some.here.now c.get_unchecked.result.now (sym c.in-Some.ensures.cell) there (is_true _ c.if-ne.ensures))

pub returns-clause-alike : goal.returns-clause-alike
returns-clause-alike g c =
    let inside = c.in-Some.ensures.in_range in
    IsCounting-end g.T.PartialEq.eq c.args.board.now.rows c.args.way c.args.at c.args.board.now.table c.args.size.0 c.args.size.1 c.requires.rows c.requires.cols (omega (arith, inside.0, c.requires.rows), omega (arith, inside.1, c.requires.cols)) c.steps_to_edge.result c.args.most c.loop-count.count c.min-left.result (c.loop-count.row, c.loop-count.col) c.min-left.ensures (omega arith) c.steps_to_edge.ensures.beyond c.loop-count.invariant
