use Rattle.std.proofs.Common.{◌∙◌, sym, ap, refl, arith, ◌<◌, Some, slice_get}
use Rattle.std.proofs.lemmas.Option.{slice_get_read}
use Rattle.grid_view.proofs.SeenLemmas.{seen_rows, seen_cols, seen_at}
use Rattle.grid_view.proofs.view.GridView.get_unchecked.Goals as goal

pub place-at-requires-clause-row_in : goal.place-at-requires-clause-row_in
place-at-requires-clause-row_in g c = omega (arith, seen_rows _ _ _ c.self.inside.fits _ c.self.view_is, c.requires.0)

pub place-at-requires-clause-col_in : goal.place-at-requires-clause-col_in
place-at-requires-clause-col_in g c = omega (arith, seen_cols _ _ _ c.self.inside.fits _ c.self.view_is, c.requires.1)

pub returns : goal.returns
returns g c =
    let row_in : c.args.row < c.self.inside.rows.count = omega (arith, seen_rows _ _ _ c.self.inside.fits _ c.self.view_is, c.requires.0) in
    let col_in : c.args.col < c.self.inside.cols.count = omega (arith, seen_cols _ _ _ c.self.inside.fits _ c.self.view_is, c.requires.1) in
    let read = slice_get_read c.self.inside.cells.now _ _ _ refl c.place-at.ensures.within c.index-self-at.is in
    seen_at _ _ _ c.self.inside.fits _ c.self.view_is c.args.row c.args.col row_in col_in
    ∙ (ap (slice_get c.self.inside.cells.now) (sym c.place-at.ensures.place) ∙ read) ∙ ap Some c.index-self-at.is
