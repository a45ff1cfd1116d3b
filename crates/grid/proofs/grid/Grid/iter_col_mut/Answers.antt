use Rattle.std.proofs.Common.{◌∙◌, ap, arith, refl}
use Rattle.grid.proofs.Common.{row, place, table_of, HoldsSize-transposed}
use Rattle.grid.proofs.Lemmas.{seen_cols, seen_written, seen_held, seen_keeps_from, seen_transposed, place_flipped}
use Rattle.grid.proofs.grid.Grid.iter_col_mut.Goals as goal

pub row_mut-requires-clause-cells : goal.row_mut-requires-clause-cells
row_mut-requires-clause-cells g c = (HoldsSize-transposed _ _ _ c.self.inside.fits).cells

pub row_mut-requires-clause-row_in : goal.row_mut-requires-clause-row_in
row_mut-requires-clause-row_in g c = omega (arith, seen_cols _ _ _ _ _ c.self.inside.fits c.self.view_is, c.requires)

pub returns : goal.returns
returns g c =
    let s = c.self.inside in
    let first = ap (λ o. place o s.col_count s.row_count c.args.c 0) c.flipped-order.ensures ∙ place_flipped s.order s.row_count s.col_count 0 c.args.c in (
      (refl, λ w. seen_written _ _ _ _ _ c.self.inside.fits c.self.view_is _ _ _ w _ first),
      record {
        writes_back = tt;
        keeps = seen_keeps_from _ _ _ _ _ c.self.inside.fits c.self.view_is _ _;
        rest =
            c.row_mut.ensures.rest
            ∙ (ap (λ o. row (table_of o s.col_count s.row_count s.flat) c.args.c) c.flipped-order.ensures
            ∙ ap (λ t. row t c.args.c) (seen_transposed _ _ _ _ _ c.self.inside.fits c.self.view_is));
        cells = seen_held _ _ _ _ _ c.self.inside.fits c.self.view_is _ _ _ _ first c.row_mut.ensures.cells;
      },
    )
