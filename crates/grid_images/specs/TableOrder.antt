-- The order of tables.
use Rattle.std.specs.Prelude.{List}
use Rattle.std.specs.Cmp.Lexicographic.{slice_cmp}
use Rattle.std.specs.Ordering.{nat_cmp, ordering_then}
use Rattle.std.specs.declared.cmp.Ordering.{Ordering}
use Rattle.grid_base.specs.Table.{row_count, col_count}

-- fewer rows are less, of as many fewer columns, and of one size the lesser cell where two tables
-- first differ, row by row
unfoldable pub table_cmp : {T : Type 0} → (T → T → Ordering) → List (List T) → List (List T)
    → Ordering
table_cmp cmp t u = ordering_then (nat_cmp (row_count t) (row_count u))
    (ordering_then (nat_cmp (col_count t) (col_count u)) (slice_cmp (slice_cmp cmp) t u))
