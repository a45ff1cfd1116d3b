use Rattle.std.proofs.Common.{arith, ap, length, slice_get}
use Rattle.grid.proofs.Common.{held, row}
use Rattle.grid.proofs.Lemmas.{stretch_row, stretch_cols, stretch_within, stretch_below, row_lent}
use Rattle.grid.proofs.exchange.copy_row.Goals as goal

pub overflow_mul-start : goal.overflow_mul-start
overflow_mul-start g c = omega (arith, (stretch_below _ _ _ _ c.to.inside.fits _ c.to.view_is _ _ _ c.requires.to_row c.requires.to_cols).1)

pub overflow_add-start-2 : goal.overflow_add-start-2
overflow_add-start-2 g c = omega (arith, (stretch_below _ _ _ _ c.to.inside.fits _ c.to.view_is _ _ _ c.requires.to_row c.requires.to_cols).1)

pub copy_line-requires-clause-within : goal.copy_line-requires-clause-within
copy_line-requires-clause-within g c =
    omega (arith, ap length c.as_mut_slice.ensures.cells, stretch_within _ _ _ _ c.to.inside.fits _ c.to.view_is _ _ _ c.requires.to_row c.requires.to_cols)

pub returns : goal.returns
returns g c =
    let view = c.args.view.now in
    row_lent _ _ _ _ _ _ _ c.to.inside.fits _ _ c.to.view_is c.requires.order c.args.at c.args.row _ _
    (stretch_row _ _ _ _ c.to.inside.fits _ c.to.view_is _ _ _ c.requires.to_row c.requires.to_cols)
    (stretch_cols _ _ _ _ c.to.inside.fits _ c.to.view_is _ _ _ c.requires.to_row c.requires.to_cols)
    c.as_mut_slice.ensures.cells c.copy_line.ensures (held view) (λ x lx. ap (slice_get (row view.rows c.args.row)) (omega arith))
