use Rattle.std.proofs.Common.{refl, sym, ◌∙◌, ap, arith, length}
use Rattle.grid.proofs.Common.{factor_small, insert_rows}
use Rattle.grid.proofs.Lemmas.{woven_lent, seen_rows, seen_same, either_way, RowsBehind-put, put_cells, put_fits, rows_put, no_room, room}
use Rattle.grid_base.specs.Order.{table_of}
use Rattle.grid.proofs.grid.Grid.put_rows.Goals as goal

pub returns-then-not-fits_usize-clause-too_large : goal.returns-then-not-fits_usize-clause-too_large
returns-then-not-fits_usize-clause-too_large g c =
    (λ _. no_room _ _ _ _ _ _ (seen_rows _ _ _ _ _ c.self.inside.fits c.self.view_is) refl c.fits_usize.ensures c.if-not-fits_usize.true, λ _. refl)

pub row_groups-groups-requires-clause-point : goal.row_groups-groups-requires-clause-point
row_groups-groups-requires-clause-point g c =
    let rows = seen_rows _ _ _ _ _ c.self.inside.fits c.self.view_is in
    omega (arith, rows, c.requires.point)

pub weave-requires : goal.weave-requires
weave-requires g c =
    let behind = RowsBehind-put c.self.inside.order _ _ c.self.inside.row_count _ _ _ c.requires.some c.requires.wide c.requires.cells (c.fits_usize.ensures.0 c.if-not-fits_usize.false) c.in_ok-append.ensures.ok in
    ap length c.as_mut_slice.ensures.cells ∙ put_cells _ _ _ _ _ c.self.inside.fits c.self.view_is _ c.requires.fits _ _ _ behind ∙ sym c.row_groups-groups.ensures.cells

pub overflow_add-self : goal.overflow_add-self
overflow_add-self g c =
    let small = factor_small _ _ c.requires.wide (c.fits_usize.ensures.0 c.if-not-fits_usize.false) in
    omega (arith, small)

pub invariant_of-self-inside-2 : goal.invariant_of-self-inside-2
invariant_of-self-inside-2 g c =
    let small = c.fits_usize.ensures.0 c.if-not-fits_usize.false in
    let behind = RowsBehind-put c.self.inside.order _ _ c.self.inside.row_count _ _ _ c.requires.some c.requires.wide c.requires.cells small c.in_ok-append.ensures.ok in
    (put_fits _ _ _ _ _ c.self.inside.fits c.self.view_is _ c.requires.fits _ _ _ behind _ _ _ _ _ _ c.row_groups-groups.ensures.groups (woven_lent _ _ _ _ c.as_mut_slice.ensures.cells c.weave.ensures) c.requires.some small, tt)

pub returns-clause-rows : goal.returns-clause-rows
returns-clause-rows g c =
    let behind = RowsBehind-put c.self.inside.order _ _ c.self.inside.row_count _ _ _ c.requires.some c.requires.wide c.requires.cells (c.fits_usize.ensures.0 c.if-not-fits_usize.false) c.in_ok-append.ensures.ok in
    rows_put _ _ _ _ _ c.self.inside.fits c.self.view_is _ c.requires.fits _ _ _ behind _ _ _ _ _ _ c.row_groups-groups.ensures.groups (woven_lent _ _ _ _ c.as_mut_slice.ensures.cells c.weave.ensures) c.requires.point
    ∙ ap (λ x. insert_rows c.args.at (table_of x.order c.args.count c.args.width c.args.cells.now.items) c.args.self.now.rows) c.self.view_is

pub returns-clause-too_large : goal.returns-clause-too_large
returns-clause-too_large g c =
    (λ h. absurd (cc h), λ large. absurd (room _ _ _ _ _ _ (seen_rows _ _ _ _ _ c.self.inside.fits c.self.view_is) refl c.fits_usize.ensures c.if-not-fits_usize.false large))

pub returns-in_err-append-clause-too_large : goal.returns-in_err-append-clause-too_large
returns-in_err-append-clause-too_large g c =
    (λ h. let other = rw h at c.from_residual.ensures.1 in absurd (cc other), λ large. absurd (room _ _ _ _ _ _ (seen_rows _ _ _ _ _ c.self.inside.fits c.self.view_is) refl c.fits_usize.ensures c.if-not-fits_usize.false large))

pub returns-in_err-append-clause-unchanged : goal.returns-in_err-append-clause-unchanged
returns-in_err-append-clause-unchanged g c =
    either_way c.from_residual.result (seen_same _ _ _ _ _ c.self.inside.fits c.self.view_is _ _ c.in_err-append.ensures.err)
