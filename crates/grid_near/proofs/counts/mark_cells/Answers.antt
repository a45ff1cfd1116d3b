use Rattle.std.proofs.Common.{◌≡◌, ◌+◌, ◌<◌, ℕ, Some, refl, ap, length, arith, slice_get}
use Rattle.grid_near.proofs.Common.{slice_get_read, lines_of}
use Rattle.grid_near.proofs.Lemmas.{marked_more}
use Rattle.grid_near.proofs.counts.mark_cells.Goals as goal

pub mark-requires : goal.mark-requires
mark-requires g c =
    let w : c.lines-width.result.1 ≡ (lines_of c.args.board.now.layout).1 = ap (λ (p : ℕ × ℕ). p.1) c.lines-width.ensures in
    c.requires.calls.at (c.args.start + c.loop-k.k) _ (omega arith) c.index-cells-start.is

pub loop-k-preserved : goal.loop-k-preserved
loop-k-preserved g c =
    let w : c.lines-width.result.1 ≡ (lines_of c.args.board.now.layout).1 = ap (λ (p : ℕ × ℕ). p.1) c.lines-width.ensures in
    let b = c.args.board.now in
    let i = c.args.start + c.loop-k.k in
    let lt : i < length b.cells.now = omega arith in
    let is : slice_get b.cells.now i ≡ Some c.index-cells-start.result = slice_get_read b.cells.now (length b.cells.now) i _ refl lt c.index-cells-start.is in
    marked_more c.args.blank _ b.mark.now b.cells.now c.args.start c.loop-k.k c.loop-k.marks c.index-cells-start.result _ c.mark.result c.loop-k.invariant (omega (arith, c.loop-k.auto.marks)) is refl c.mark.ensures

pub returns-clause-cells : goal.returns-clause-cells
returns-clause-cells g c =
    let w : c.lines-width.result.1 ≡ (lines_of c.args.board.now.layout).1 = ap (λ (p : ℕ × ℕ). p.1) c.lines-width.ensures in
    let all : c.loop-k.k ≡ c.lines-width.result.1 = omega (arith, c.loop-k.auto.k-end) in
    record { at = λ k x lt is. c.loop-k.invariant.at k x (omega arith) is }
