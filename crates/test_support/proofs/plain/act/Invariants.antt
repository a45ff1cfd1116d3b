use Rattle.std.proofs.Common.{◌≡◌}
use Rattle.grid.specs.Prelude.{row_count, col_count, cell, tabulate, image_cols, source_row, source_col}
use Rattle.test_support.specs.Plain.{items_of_each}
use Rattle.test_support.proofs.plain.act.Given as goal

abbrev pub invariant-loop-row : goal.invariant-loop-row
invariant-loop-row g l =
    let t = items_of_each l.table in
    items_of_each l.image ≡ tabulate l.row (image_cols l.symmetry (row_count t) (col_count t))
    (λ row col. cell t (source_row l.symmetry (row_count t) (col_count t) row col) (source_col l.symmetry (row_count t) (col_count t) row col))
