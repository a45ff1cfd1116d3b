use Rattle.std.proofs.Common.{◌≡◌}
use Rattle.grid_paths.proofs.Common.{IsCounting}
use Rattle.grid_base.specs.Table.{row_count, col_count}
use Rattle.grid_paths.proofs.numbered.number_all.Given as goal

abbrev pub invariant-loop-row : goal.invariant-loop-row
invariant-loop-row g l =
    record {
      counting : IsCounting l.connectivity g.T.PartialEq.eq l.grid l.bfs l.count (l.row, 0);
      end : l.row-end ≡ row_count l.grid.rows;
    }

abbrev pub invariant-loop-col : goal.invariant-loop-col
invariant-loop-col g l =
    record {
      counting : IsCounting l.connectivity g.T.PartialEq.eq l.grid l.bfs l.count (l.row, l.col);
      end : l.col-end ≡ col_count l.grid.rows;
    }
