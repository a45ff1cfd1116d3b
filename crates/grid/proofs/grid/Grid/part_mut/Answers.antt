use Rattle.std.proofs.Common.{◌≡◌, length, sym, ap, ◌∙◌, arith}
use Rattle.grid_base.proofs.Common.{table_of, nil_from_length}
use Rattle.grid_base.proofs.TableLemmas.{rows-tabulate}
use Rattle.grid_view.specs.View.{sub_table}
use Rattle.grid_view.specs.ViewMut.{board_rows, board_layout, board_cells, part_rows}
use Rattle.grid.proofs.Lemmas.{seen_rows, seen_cols, seen_refilled, seen_keeps, seen_given_back}
use Rattle.grid.proofs.grid.Grid.part_mut.Goals as goal

pub over-requires-clause-stored : goal.over-requires-clause-stored
over-requires-clause-stored g c = ap length c.as_mut_slice.ensures.cells ∙ c.self.inside.fits.cells

pub over-requires-clause-rows_in : goal.over-requires-clause-rows_in
over-requires-clause-rows_in g c = omega (arith, seen_rows _ _ _ _ _ c.self.inside.fits c.self.view_is, c.requires.rows_in)

pub over-requires-clause-cols_in : goal.over-requires-clause-cols_in
over-requires-clause-cols_in g c = omega (arith, seen_cols _ _ _ _ _ c.self.inside.fits c.self.view_is, c.requires.cols_in)

pub returns : goal.returns
returns g c =
    let t = c.args.self.now.rows in
    let i = c.self.inside in
    let o = c.over in
    let board : board_rows o.result ≡ t = o.ensures.board ∙ (ap (table_of i.order i.row_count i.col_count) c.as_mut_slice.ensures.cells ∙ ap (λ x. x.rows) c.self.view_is) in
    let shown : part_rows o.result ≡ sub_table t c.args.at o.result.size = ap (λ x. sub_table x o.result.at o.result.size) board ∙ ap (λ x. sub_table t x o.result.size) o.ensures.at in (
      (sym o.ensures.same_reference, λ w. seen_refilled _ _ _ _ _ i.fits c.self.view_is w _),
      record {
        writes_back = tt;
        gives_back = λ v same.
            let of = same ∙ o.ensures.layout in
            seen_given_back _ _ _ _ _ i.fits c.self.view_is (board_layout v) (board_cells v) (ap (λ b. b.order) of) (ap (λ b. b.rows) of) (ap (λ b. b.cols) of) v.stored;
        keeps = seen_keeps _ _ _ _ _ i.fits c.self.view_is;
        board = board;
        at = o.ensures.at;
        rows = λ some_rows some_cols. shown ∙ ap (sub_table t c.args.at) (o.ensures.some some_rows some_cols);
        none = λ e. shown ∙ (ap (sub_table t c.args.at) (o.ensures.none e) ∙ nil_from_length (sub_table t c.args.at (0, 0)) (rows-tabulate 0 0 _));
      },
    )
