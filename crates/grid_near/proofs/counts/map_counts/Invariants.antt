use Rattle.std.proofs.Common.{◌≡◌, ◌+◌, ◌*◌, ◌<◌, ◌≤◌, false, take, length, vec_len, vec_capacity}
use Rattle.grid_near.proofs.Common.{AllZip, lines_of, ReturnsAtCell, MarksBeside, near, table, placed_cells, AnswersCounted}
use Rattle.grid_near.proofs.counts.map_counts.Given as goal

abbrev pub invariant-loop-line : goal.invariant-loop-line
invariant-loop-line g l =
    let b = l.fn.board in
    let lines = (lines_of b.layout).0 in
    let w = (lines_of b.layout).1 in
    record {
      up_len : length l.up.items ≡ w + 2;
      mid_len : length l.mid.items ≡ w + 2;
      down_len : length l.down.items ≡ w + 2;
      up : l.line < lines → MarksBeside false (λ h x m. goal.F-post g h x m) b l.line 0 l.up.items;
      mid : l.line < lines → MarksBeside false (λ h x m. goal.F-post g h x m) b l.line 1 l.mid.items;
      room : length b.cells.now ≤ vec_capacity l.made;
      passed : vec_len l.made ≡ l.line * w;
      answers : AllZip (ReturnsAtCell (AnswersCounted (near b) (λ h x m. goal.F-post g h x m) b.mark.now (table b) (λ h x n y. goal.G-post g h x n y)) l.rule) (take (vec_len l.made) (placed_cells b)) l.made.items;
    }
