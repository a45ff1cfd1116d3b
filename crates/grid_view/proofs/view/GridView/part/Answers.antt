use Rattle.std.proofs.Common.{◌≡◌, ◌⊎◌, inl, inr, ◌+◌, ◌*◌, ◌-◌, ◌<◌, ◌≤◌, length, take, drop, ◌∙◌, ap, arith, rules, length-drop, length-take, take_all}
use Rattle.grid_base.specs.Table.{row_count, col_count}
use Rattle.grid_base.proofs.TableLemmas.{rows-tabulate}
use Rattle.grid_view.specs.View.{sub_table}
use Rattle.grid_view.proofs.SeenLemmas.{seen_rows, seen_cols, start_of, start_of_row, holds_part, part_within, seen_part, seen_none, cols-sub_table, part_some, part_none}
use Rattle.grid_view.proofs.view.GridView.part.Goals as goal

pub first_of-row-requires : goal.first_of-row-requires
first_of-row-requires g c = omega (arith, seen_rows _ _ _ c.self.inside.fits _ c.self.view_is, c.requires.rows_in)

pub first_of-col-requires : goal.first_of-col-requires
first_of-col-requires g c = omega (arith, seen_cols _ _ _ c.self.inside.fits _ c.self.view_is, c.requires.cols_in)

pub overflow_mul-start : goal.overflow_mul-start
overflow_mul-start g c =
    let rows_in : c.args.at.0 + c.args.size.0 ≤ c.self.inside.rows.count = omega (arith, seen_rows _ _ _ c.self.inside.fits _ c.self.view_is, c.requires.rows_in) in
    let cols_in : c.args.at.1 + c.args.size.1 ≤ c.self.inside.cols.count = omega (arith, seen_cols _ _ _ c.self.inside.fits _ c.self.view_is, c.requires.cols_in) in
    let some_rows : 0 < c.args.size.0 = omega (arith, c.if-size-eq0-2.false.0) in
    let some_cols : 0 < c.args.size.1 = omega (arith, c.if-size-eq0-2.false.1) in
    let first = part_within _ _ _ c.self.inside.fits c.args.at c.args.size rows_in cols_in 0 0 some_rows some_cols in
    let row = ap (λ x. x * c.self.inside.rows.stride) c.first_of-row.ensures in
    let col = ap (λ x. x * c.self.inside.cols.stride) c.first_of-col.ensures in
    omega arith

pub overflow_mul-start-else-size-eq0-2 : goal.overflow_mul-start-else-size-eq0-2
overflow_mul-start-else-size-eq0-2 g c =
    let rows_in : c.args.at.0 + c.args.size.0 ≤ c.self.inside.rows.count = omega (arith, seen_rows _ _ _ c.self.inside.fits _ c.self.view_is, c.requires.rows_in) in
    let cols_in : c.args.at.1 + c.args.size.1 ≤ c.self.inside.cols.count = omega (arith, seen_cols _ _ _ c.self.inside.fits _ c.self.view_is, c.requires.cols_in) in
    let some_rows : 0 < c.args.size.0 = omega (arith, c.if-size-eq0-2.false.0) in
    let some_cols : 0 < c.args.size.1 = omega (arith, c.if-size-eq0-2.false.1) in
    let first = part_within _ _ _ c.self.inside.fits c.args.at c.args.size rows_in cols_in 0 0 some_rows some_cols in
    let row = ap (λ x. x * c.self.inside.rows.stride) c.first_of-row.ensures in
    let col = ap (λ x. x * c.self.inside.cols.stride) c.first_of-col.ensures in
    omega arith

pub overflow_add-start : goal.overflow_add-start
overflow_add-start g c =
    let rows_in : c.args.at.0 + c.args.size.0 ≤ c.self.inside.rows.count = omega (arith, seen_rows _ _ _ c.self.inside.fits _ c.self.view_is, c.requires.rows_in) in
    let cols_in : c.args.at.1 + c.args.size.1 ≤ c.self.inside.cols.count = omega (arith, seen_cols _ _ _ c.self.inside.fits _ c.self.view_is, c.requires.cols_in) in
    let some_rows : 0 < c.args.size.0 = omega (arith, c.if-size-eq0-2.false.0) in
    let some_cols : 0 < c.args.size.1 = omega (arith, c.if-size-eq0-2.false.1) in
    let first = part_within _ _ _ c.self.inside.fits c.args.at c.args.size rows_in cols_in 0 0 some_rows some_cols in
    let row = ap (λ x. x * c.self.inside.rows.stride) c.first_of-row.ensures in
    let col = ap (λ x. x * c.self.inside.cols.stride) c.first_of-col.ensures in
    omega arith

pub offset_bounds-self-inside-start : goal.offset_bounds-self-inside-start
offset_bounds-self-inside-start g c =
    let rows_in : c.args.at.0 + c.args.size.0 ≤ c.self.inside.rows.count = omega (arith, seen_rows _ _ _ c.self.inside.fits _ c.self.view_is, c.requires.rows_in) in
    let cols_in : c.args.at.1 + c.args.size.1 ≤ c.self.inside.cols.count = omega (arith, seen_cols _ _ _ c.self.inside.fits _ c.self.view_is, c.requires.cols_in) in
    let some_rows : 0 < c.args.size.0 = omega (arith, c.if-size-eq0-2.false.0) in
    let some_cols : 0 < c.args.size.1 = omega (arith, c.if-size-eq0-2.false.1) in
    let first = part_within _ _ _ c.self.inside.fits c.args.at c.args.size rows_in cols_in 0 0 some_rows some_cols in
    let row = ap (λ x. x * c.self.inside.rows.stride) c.first_of-row.ensures in
    let col = ap (λ x. x * c.self.inside.cols.stride) c.first_of-col.ensures in
    omega arith

pub slice_bounds-result-count : goal.slice_bounds-result-count
slice_bounds-result-count g c =
    let rows_in : c.args.at.0 + c.args.size.0 ≤ c.self.inside.rows.count = omega (arith, seen_rows _ _ _ c.self.inside.fits _ c.self.view_is, c.requires.rows_in) in
    let cols_in : c.args.at.1 + c.args.size.1 ≤ c.self.inside.cols.count = omega (arith, seen_cols _ _ _ c.self.inside.fits _ c.self.view_is, c.requires.cols_in) in
    let some_rows : 0 < c.args.size.0 = omega (arith, c.if-size-eq0-2.false.0) in
    let some_cols : 0 < c.args.size.1 = omega (arith, c.if-size-eq0-2.false.1) in
    let first = part_within _ _ _ c.self.inside.fits c.args.at c.args.size rows_in cols_in 0 0 some_rows some_cols in
    let row = ap (λ x. x * c.self.inside.rows.stride) c.first_of-row.ensures in
    let col = ap (λ x. x * c.self.inside.cols.stride) c.first_of-col.ensures in
    omega arith

pub slice_bounds-result-start : goal.slice_bounds-result-start
slice_bounds-result-start g c =
    let rows_in : c.args.at.0 + c.args.size.0 ≤ c.self.inside.rows.count = omega (arith, seen_rows _ _ _ c.self.inside.fits _ c.self.view_is, c.requires.rows_in) in
    let cols_in : c.args.at.1 + c.args.size.1 ≤ c.self.inside.cols.count = omega (arith, seen_cols _ _ _ c.self.inside.fits _ c.self.view_is, c.requires.cols_in) in
    let some_rows : 0 < c.args.size.0 = omega (arith, c.if-size-eq0-2.false.0) in
    let some_cols : 0 < c.args.size.1 = omega (arith, c.if-size-eq0-2.false.1) in
    let first = part_within _ _ _ c.self.inside.fits c.args.at c.args.size rows_in cols_in 0 0 some_rows some_cols in
    let row = ap (λ x. x * c.self.inside.rows.stride) c.first_of-row.ensures in
    let col = ap (λ x. x * c.self.inside.cols.stride) c.first_of-col.ensures in
    search rules

pub invariant_of-result : goal.invariant_of-result
invariant_of-result g c =
    let rows_in : c.args.at.0 + c.args.size.0 ≤ c.self.inside.rows.count = omega (arith, seen_rows _ _ _ c.self.inside.fits _ c.self.view_is, c.requires.rows_in) in
    let cols_in : c.args.at.1 + c.args.size.1 ≤ c.self.inside.cols.count = omega (arith, seen_cols _ _ _ c.self.inside.fits _ c.self.view_is, c.requires.cols_in) in
    let some_rows : 0 < c.args.size.0 = omega (arith, c.if-size-eq0-2.false.0) in
    let some_cols : 0 < c.args.size.1 = omega (arith, c.if-size-eq0-2.false.1) in
    let start = c.first_of-row.result * c.self.inside.rows.stride + c.first_of-col.result * c.self.inside.cols.stride in
    let cells = c.self.inside.cells.now in
    let same : start ≡ start_of c.self.inside.rows c.self.inside.cols c.args.at c.args.size = ap (λ x. x * c.self.inside.rows.stride + c.first_of-col.result * c.self.inside.cols.stride) c.first_of-row.ensures ∙ ap (λ x. start_of_row c.self.inside.rows c.args.at c.args.size + x * c.self.inside.cols.stride) c.first_of-col.ensures in
    let rest : length (take (length cells - start) (drop start cells)) ≡ length cells - start_of c.self.inside.rows c.self.inside.cols c.args.at c.args.size = omega (arith, length-take (length cells - start) (drop start cells), length-drop start cells, same) in
    rw (c.cut-else-size-eq0-2.ensures, c.cut-else-size-eq0-2-2.ensures)
    (holds_part _ _ _ c.self.inside.fits c.args.at c.args.size rows_in cols_in _ rest some_rows some_cols, tt)

pub returns-then-size-eq0-2-clause-none : goal.returns-then-size-eq0-2-clause-none
returns-then-size-eq0-2-clause-none g c = λ _. rw (c.cut.ensures, c.cut-then-size-eq0-2.ensures) (seen_none c.self.inside.rows c.self.inside.cols c.self.inside.cells.now)

pub returns-else-size-eq0-2-clause-rows : goal.returns-else-size-eq0-2-clause-rows
returns-else-size-eq0-2-clause-rows g c = λ some_rows some_cols.
    let rows_in : c.args.at.0 + c.args.size.0 ≤ c.self.inside.rows.count = omega (arith, seen_rows _ _ _ c.self.inside.fits _ c.self.view_is, c.requires.rows_in) in
    let cols_in : c.args.at.1 + c.args.size.1 ≤ c.self.inside.cols.count = omega (arith, seen_cols _ _ _ c.self.inside.fits _ c.self.view_is, c.requires.cols_in) in
    let start = c.first_of-row.result * c.self.inside.rows.stride + c.first_of-col.result * c.self.inside.cols.stride in
    let same : start ≡ start_of c.self.inside.rows c.self.inside.cols c.args.at c.args.size = ap (λ x. x * c.self.inside.rows.stride + c.first_of-col.result * c.self.inside.cols.stride) c.first_of-row.ensures ∙ ap (λ x. start_of_row c.self.inside.rows c.args.at c.args.size + x * c.self.inside.cols.stride) c.first_of-col.ensures in
    rw (c.cut-else-size-eq0-2.ensures, c.cut-else-size-eq0-2-2.ensures)
    (seen_part _ _ _ c.self.inside.fits c.args.at c.args.size rows_in cols_in _ (take_all (length c.self.inside.cells.now - start) (drop start c.self.inside.cells.now) (omega (arith, length-drop start c.self.inside.cells.now)) ∙ ap (λ x. drop x c.self.inside.cells.now) same)
    ∙ ap (λ x. sub_table x.rows c.args.at c.args.size) c.self.view_is)

pub returns-then-size-eq0-2-clause-row_count : goal.returns-then-size-eq0-2-clause-row_count
returns-then-size-eq0-2-clause-row_count g c =
    ap row_count (returns-then-size-eq0-2-clause-none g c either) ∙ part_none c.args.size.0 c.args.size.1 either
  where
    either : (c.args.size.0 ≡ 0) ⊎ (c.args.size.1 ≡ 0)
    either = elim c.if-size-eq0-2.either [ inl e ↦ inl e | inr e ↦ inr e.1 ]

pub returns-then-size-eq0-2-clause-col_count : goal.returns-then-size-eq0-2-clause-col_count
returns-then-size-eq0-2-clause-col_count g c =
    ap col_count (returns-then-size-eq0-2-clause-none g c either) ∙ part_none c.args.size.1 c.args.size.0 other
  where
    either : (c.args.size.0 ≡ 0) ⊎ (c.args.size.1 ≡ 0)
    either = elim c.if-size-eq0-2.either [ inl e ↦ inl e | inr e ↦ inr e.1 ]

    other : (c.args.size.1 ≡ 0) ⊎ (c.args.size.0 ≡ 0)
    other = elim c.if-size-eq0-2.either [ inl e ↦ inr e | inr e ↦ inl e.1 ]

pub returns-else-size-eq0-2-clause-row_count : goal.returns-else-size-eq0-2-clause-row_count
returns-else-size-eq0-2-clause-row_count g c =
    let some_cols : 0 < c.args.size.1 = omega (arith, c.if-size-eq0-2.false.1) in
    rows-tabulate c.cut-else-size-eq0-2.result.count _ _ ∙ (ap (λ x. x.count) c.cut-else-size-eq0-2.ensures ∙ part_some c.args.size.0 c.args.size.1 some_cols)

pub returns-else-size-eq0-2-clause-col_count : goal.returns-else-size-eq0-2-clause-col_count
returns-else-size-eq0-2-clause-col_count g c =
    let t = c.args.self.now in
    let some_rows : 0 < c.args.size.0 = omega (arith, c.if-size-eq0-2.false.0) in
    let some_cols : 0 < c.args.size.1 = omega (arith, c.if-size-eq0-2.false.1) in
    ap col_count (returns-else-size-eq0-2-clause-rows g c some_rows some_cols)
    ∙ (cols-sub_table t.rows c.args.at c.args.size t.table c.requires.rows_in c.requires.cols_in some_rows some_cols
    ∙ part_some c.args.size.1 c.args.size.0 some_rows)
