use Rattle.std.proofs.Common.{refl, sym, ap, ◌∙◌, arith}
use Rattle.grid_base.proofs.Common.{row_count}
use Rattle.grid_view.specs.View.{sub_table}
use Rattle.grid_view.specs.ViewMut.{part_rows}
use Rattle.grid_view.proofs.PartLemmas.{part-or-none, part-all}
use Rattle.grid.proofs.Lemmas.{seen_rows, seen_cols}
use Rattle.grid.proofs.grid.Grid.view_mut.Goals as goal

pub part_mut-requires-clause-rows_in : goal.part_mut-requires-clause-rows_in
part_mut-requires-clause-rows_in g c = omega (arith, seen_rows _ _ _ _ _ c.self.inside.fits c.self.view_is)

pub part_mut-requires-clause-cols_in : goal.part_mut-requires-clause-cols_in
part_mut-requires-clause-cols_in g c = omega (arith, seen_cols _ _ _ _ _ c.self.inside.fits c.self.view_is)

pub returns : goal.returns
returns g c =
    let v = c.args.self.now in
    let i = c.self.inside in
    let part = c.part_mut.ensures in (
      (refl, λ w. refl),
      record {
        writes_back = tt;
        gives_back = part.gives_back;
        keeps = part.keeps;
        board = part.board;
        at = part.at;
        rows =
            part-or-none v.rows (part_rows c.part_mut.result) (0, 0) (i.row_count, i.col_count) i.fits.size part.rows part.none
            ∙ (ap (λ m. sub_table v.rows (0, 0) (m, i.col_count)) (sym (seen_rows _ _ _ _ _ i.fits c.self.view_is))
            ∙ (ap (λ n. sub_table v.rows (0, 0) (row_count v.rows, n)) (sym (seen_cols _ _ _ _ _ i.fits c.self.view_is)) ∙ part-all v.rows v.table));
      },
    )
