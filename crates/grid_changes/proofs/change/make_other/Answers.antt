use Rattle.grid_changes.proofs.ChangeLemmas.{exchange_inverts, turn_inverts}
use Rattle.grid_changes.proofs.change.make_other.Goals as goal

pub returns-in-Exchange-clause-inverse : goal.returns-in-Exchange-clause-inverse
returns-in-Exchange-clause-inverse g c =
    let fits = rw c.in-Exchange.is at c.requires.fits in
    let swapped = c.swap in
    exchange_inverts c.args.grid.now swapped.new.self c.in-Exchange.a c.in-Exchange.b fits.0 fits.1 swapped.ensures.rows swapped.ensures.same

pub returns-in-Turn-clause-inverse : goal.returns-in-Turn-clause-inverse
returns-in-Turn-clause-inverse g c =
    turn_inverts c.args.grid.now c.apply.new.self c.in-Turn.symmetry c.inverse.result c.inverse.ensures c.apply.ensures.rows c.apply.ensures.order
