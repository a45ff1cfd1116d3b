use Rattle.grid_near.proofs.Lemmas.{holds_size, line_marked}
use Rattle.grid_near.proofs.counts.mark_line.Goals as goal

pub returns-in-Some-clause-marks : goal.returns-in-Some-clause-marks
returns-in-Some-clause-marks g c =
    let b = c.args.board.now in
    let e = c.lines-lines.ensures in
    let l = rw e at c.in-Some.ensures in
    let m = rw e at c.mark_cells.ensures.cells in
    let d = rw e at c.mark_ends.ensures.ends in
    line_marked c.args.blank _ b.mark.now b.cells.now b.layout.order (b.layout.rows, b.layout.cols) (holds_size b) c.in-Some.line c.mark_cells.new.marks c.mark_ends.new.marks l.0 m b.edges _ l.1 d
