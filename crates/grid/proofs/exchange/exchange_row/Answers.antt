use Rattle.std.proofs.Common.{arith}
use Rattle.grid.proofs.Lemmas.{stretch_row, stretch_cols, stretch_within, stretch_below, row_exchanged}
use Rattle.grid.proofs.exchange.exchange_row.Goals as goal

pub overflow_add-start : goal.overflow_add-start
overflow_add-start g c = omega (arith, (stretch_below _ _ _ _ c.to.inside.fits _ c.to.view_is _ _ _ c.requires.to_row c.requires.to_cols).0)

pub overflow_mul-start : goal.overflow_mul-start
overflow_mul-start g c = omega (arith, (stretch_below _ _ _ _ c.to.inside.fits _ c.to.view_is _ _ _ c.requires.to_row c.requires.to_cols).1)

pub overflow_add-start-2 : goal.overflow_add-start-2
overflow_add-start-2 g c = omega (arith, (stretch_below _ _ _ _ c.to.inside.fits _ c.to.view_is _ _ _ c.requires.to_row c.requires.to_cols).1)

pub overflow_mul-row : goal.overflow_mul-row
overflow_mul-row g c = omega (arith, (stretch_below _ _ _ _ c.from.inside.fits _ c.from.view_is _ 0 c.args.cols c.requires.from_row (omega (arith, c.requires.from_cols))).1)

pub swap_with-requires-clause-within : goal.swap_with-requires-clause-within
swap_with-requires-clause-within g c = stretch_within _ _ _ _ c.to.inside.fits _ c.to.view_is _ _ _ c.requires.to_row c.requires.to_cols

pub swap_with-requires-clause-within_other : goal.swap_with-requires-clause-within_other
swap_with-requires-clause-within_other g c = omega (arith, stretch_within _ _ _ _ c.from.inside.fits _ c.from.view_is _ 0 c.args.cols c.requires.from_row (omega (arith, c.requires.from_cols)))

pub returns : goal.returns
returns g c =
    row_exchanged _ _ _ _ _ _ _ _ _ _ c.to.inside.fits _ c.from.inside.fits _ _ _ c.to.view_is c.from.view_is c.requires.order c.requires.from_order c.args.at c.args.row c.args.cols
    (stretch_row _ _ _ _ c.to.inside.fits _ c.to.view_is _ _ _ c.requires.to_row c.requires.to_cols)
    (stretch_row _ _ _ _ c.from.inside.fits _ c.from.view_is _ 0 c.args.cols c.requires.from_row (omega (arith, c.requires.from_cols)))
    (stretch_cols _ _ _ _ c.to.inside.fits _ c.to.view_is _ _ _ c.requires.to_row c.requires.to_cols)
    (omega (arith, stretch_cols _ _ _ _ c.from.inside.fits _ c.from.view_is _ 0 c.args.cols c.requires.from_row (omega (arith, c.requires.from_cols))))
    c.swap_with.ensures.taken c.swap_with.ensures.given
