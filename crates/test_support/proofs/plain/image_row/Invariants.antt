use Rattle.std.proofs.Common.{◌≡◌}
use Rattle.grid.specs.Prelude.{row_count, col_count, cell, cells_by, source_row, source_col}
use Rattle.test_support.specs.Plain.{items_of_each}
use Rattle.test_support.proofs.plain.image_row.Given as goal

abbrev pub invariant-loop-col : goal.invariant-loop-col
invariant-loop-col g l =
    let t = items_of_each l.table in
    l.cells.items ≡ cells_by l.col (λ col. cell t (source_row l.symmetry (row_count t) (col_count t) l.row col) (source_col l.symmetry (row_count t) (col_count t) l.row col))
