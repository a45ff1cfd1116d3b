use Rattle.std.proofs.Common.{rules, ◌≤◌, ◌+◌, sym, ◌∙◌, ap, arith, mul-le-mul_right}
use Rattle.grid.proofs.Common.{length-swap, row_count, view-cols}
use Rattle.grid.proofs.Lemmas.{seen_rows, seen_cols, rows_by_blocks}
use Rattle.grid.proofs.grid.Grid.swap_rows.Goals as goal

pub swap_lines-requires-clause-a_in : goal.swap_lines-requires-clause-a_in
swap_lines-requires-clause-a_in g c =
    let next : c.args.a + 1 ≤ c.self.inside.row_count = omega (arith, c.requires.a_in, seen_rows _ _ _ _ _ c.self.inside.fits c.self.view_is) in
    omega (arith, c.self.inside.fits.cells, mul-le-mul_right c.self.inside.col_count next)

pub swap_lines-requires-clause-b_in : goal.swap_lines-requires-clause-b_in
swap_lines-requires-clause-b_in g c =
    let next : c.args.b + 1 ≤ c.self.inside.row_count = omega (arith, c.requires.b_in, seen_rows _ _ _ _ _ c.self.inside.fits c.self.view_is) in
    omega (arith, c.self.inside.fits.cells, mul-le-mul_right c.self.inside.col_count next)

pub returns-in-RowMajor-clause-rows : goal.returns-in-RowMajor-clause-rows
returns-in-RowMajor-clause-rows g c =
    let rows = seen_rows _ _ _ _ _ c.self.inside.fits c.self.view_is in
    rw (← c.self.view_is, c.in-RowMajor.is)
    (rows_by_blocks _ _ _ _ _ _ c.self.inside.fits (omega (arith, c.requires.a_in, rows)) (omega (arith, c.requires.b_in, rows)) c.swap_lines.ensures)

pub returns-in-RowMajor-clause-same : goal.returns-in-RowMajor-clause-same
returns-in-RowMajor-clause-same g c = record {
  rows = ap row_count (returns-in-RowMajor-clause-rows g c) ∙ length-swap _ _ _;
  cols = view-cols c.self.inside.order _ _ _ (rw c.swap_lines.ensures.length_stays c.self.inside.fits) ∙ sym (seen_cols _ _ _ _ _ c.self.inside.fits c.self.view_is);
  order = search rules;
}
