use Rattle.std.proofs.Common.{◌≡◌, ◌+◌, take, vec_len, vec_capacity}
use Rattle.grid_near.proofs.Common.{AllZip, ReturnsAtCell, near, table, placed_cells, AnswersSummed}
use Rattle.grid_near.proofs.counts.push_sums.Given as goal

abbrev pub invariant-loop-k : goal.invariant-loop-k
invariant-loop-k g l =
    let b = l.fn.board in
    record {
      room : vec_capacity l.made ≡ vec_capacity l.initial.made;
      passed : vec_len l.made ≡ vec_len l.initial.made + l.k;
      answers : AllZip (ReturnsAtCell (AnswersSummed (near b) (λ h x m. goal.F-post g h x m) b.mark.now (table b) (λ h x n y. goal.G-post g h x n y)) l.rule) (take (vec_len l.made) (placed_cells b)) l.made.items;
    }
