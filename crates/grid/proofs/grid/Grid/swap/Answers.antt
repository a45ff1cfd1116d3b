use Rattle.std.proofs.Common.{rules, arith, ap, ◌∙◌}
use Rattle.grid.proofs.Common.{place_within, rows-exchanged, cols-exchanged}
use Rattle.grid.proofs.Lemmas.{seen_row_in, seen_col_in, rows_swapped}
use Rattle.grid_base.specs.Table.{row_count, col_count}
use Rattle.grid.proofs.grid.Grid.swap.Goals as goal

pub place-i-requires-clause-row_in : goal.place-i-requires-clause-row_in
place-i-requires-clause-row_in g c = seen_row_in _ _ _ _ _ c.self.inside.fits _ _ c.self.view_is c.requires.a_in

pub place-i-requires-clause-col_in : goal.place-i-requires-clause-col_in
place-i-requires-clause-col_in g c = seen_col_in _ _ _ _ _ c.self.inside.fits _ _ c.self.view_is c.requires.a_in

pub place-j-requires-clause-row_in : goal.place-j-requires-clause-row_in
place-j-requires-clause-row_in g c = seen_row_in _ _ _ _ _ c.self.inside.fits _ _ c.self.view_is c.requires.b_in

pub place-j-requires-clause-col_in : goal.place-j-requires-clause-col_in
place-j-requires-clause-col_in g c = seen_col_in _ _ _ _ _ c.self.inside.fits _ _ c.self.view_is c.requires.b_in

pub swap-requires-clause-i_in : goal.swap-requires-clause-i_in
swap-requires-clause-i_in g c =
    let row_in = seen_row_in _ _ _ _ _ c.self.inside.fits _ _ c.self.view_is c.requires.a_in in
    let col_in = seen_col_in _ _ _ _ _ c.self.inside.fits _ _ c.self.view_is c.requires.a_in in
    omega (arith, c.place-i.ensures, c.self.inside.fits.cells, place_within c.self.inside.order _ _ _ _ row_in col_in)

pub swap-requires-clause-j_in : goal.swap-requires-clause-j_in
swap-requires-clause-j_in g c =
    let row_in = seen_row_in _ _ _ _ _ c.self.inside.fits _ _ c.self.view_is c.requires.b_in in
    let col_in = seen_col_in _ _ _ _ _ c.self.inside.fits _ _ c.self.view_is c.requires.b_in in
    omega (arith, c.place-j.ensures, c.self.inside.fits.cells, place_within c.self.inside.order _ _ _ _ row_in col_in)

pub returns-clause-rows : goal.returns-clause-rows
returns-clause-rows g c =
    let a_row = seen_row_in _ _ _ _ _ c.self.inside.fits _ _ c.self.view_is c.requires.a_in in
    let a_col = seen_col_in _ _ _ _ _ c.self.inside.fits _ _ c.self.view_is c.requires.a_in in
    let b_row = seen_row_in _ _ _ _ _ c.self.inside.fits _ _ c.self.view_is c.requires.b_in in
    let b_col = seen_col_in _ _ _ _ _ c.self.inside.fits _ _ c.self.view_is c.requires.b_in in
    rw (c.swap.ensures, c.place-i.ensures, c.place-j.ensures)
    (rows_swapped _ _ _ _ _ c.args.a c.args.b c.self.inside.fits c.self.view_is a_row a_col b_row b_col)

pub returns-clause-same : goal.returns-clause-same
returns-clause-same g c = record {
  rows = ap row_count (returns-clause-rows g c) ∙ rows-exchanged c.args.self.now.rows c.args.self.now.table c.args.a c.args.b;
  cols = ap col_count (returns-clause-rows g c) ∙ cols-exchanged c.args.self.now.rows c.args.self.now.table c.args.a c.args.b;
  order = search rules;
}
