use Rattle.std.proofs.Common.{◌∙◌, ap, arith, refl}
use Rattle.grid.proofs.Lemmas.{seen_rows, seen_written, seen_held, seen_keeps_from}
use Rattle.grid_base.specs.Table.{row}
use Rattle.grid.proofs.grid.Grid.iter_row_mut.Goals as goal

pub row_mut-requires-clause-row_in : goal.row_mut-requires-clause-row_in
row_mut-requires-clause-row_in g c = omega (arith, seen_rows _ _ _ _ _ c.self.inside.fits c.self.view_is, c.requires)

pub returns : goal.returns
returns g c = (
  (refl, λ w. seen_written _ _ _ _ _ c.self.inside.fits c.self.view_is _ _ _ w _ refl),
  record {
    writes_back = tt;
    keeps = seen_keeps_from _ _ _ _ _ c.self.inside.fits c.self.view_is _ _;
    rest = c.row_mut.ensures.rest ∙ ap (λ x. row x.rows c.args.r) c.self.view_is;
    cells = seen_held _ _ _ _ _ c.self.inside.fits c.self.view_is _ _ _ _ refl c.row_mut.ensures.cells;
  },
)
