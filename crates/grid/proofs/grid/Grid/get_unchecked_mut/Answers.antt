use Rattle.std.proofs.Common.{◌∙◌, sym, ap, arith, refl, slice_get}
use Rattle.grid.proofs.Common.{place_within, view-cell}
use Rattle.grid.proofs.Lemmas.{seen_row_in, seen_col_in, seen_written_cell}
use Rattle.grid.proofs.grid.Grid.get_unchecked_mut.Goals as goal

pub place-place-requires-clause-row_in : goal.place-place-requires-clause-row_in
place-place-requires-clause-row_in g c = seen_row_in _ _ _ _ _ c.self.inside.fits _ _ c.self.view_is c.requires

pub place-place-requires-clause-col_in : goal.place-place-requires-clause-col_in
place-place-requires-clause-col_in g c = seen_col_in _ _ _ _ _ c.self.inside.fits _ _ c.self.view_is c.requires

pub at_mut-requires : goal.at_mut-requires
at_mut-requires g c =
    let row_in = seen_row_in _ _ _ _ _ c.self.inside.fits _ _ c.self.view_is c.requires in
    let col_in = seen_col_in _ _ _ _ _ c.self.inside.fits _ _ c.self.view_is c.requires in
    omega (arith, c.place-place.ensures, c.self.inside.fits.cells, place_within c.self.inside.order _ _ _ _ row_in col_in)

pub returns : goal.returns
returns g c =
    let row_in = seen_row_in _ _ _ _ _ c.self.inside.fits _ _ c.self.view_is c.requires in
    let col_in = seen_col_in _ _ _ _ _ c.self.inside.fits _ _ c.self.view_is c.requires in
    let read =
    view-cell _ _ _ _ c.self.inside.fits _ _ row_in col_in ∙ (ap (slice_get c.self.inside.flat) (sym c.place-place.ensures) ∙ c.at_mut.ensures.item) in (
      (refl, λ w. seen_written_cell _ _ _ _ _ _ _ w c.place-place.result c.place-place.ensures c.self.inside.fits _ c.self.view_is row_in col_in),
      record { writes_back = tt; item = rw (← c.self.view_is) read },
    )
