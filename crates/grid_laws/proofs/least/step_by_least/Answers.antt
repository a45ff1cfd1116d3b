use Rattle.std.proofs.Common.{refl}
use Rattle.grid_laws.proofs.Common.{command_value, command_symmetry}
use Rattle.grid_laws.proofs.Lemmas.{grew_by_price, grew_by_shift, on_ok3, shift_is_least, price_is_least}
use Rattle.grid_laws.proofs.least.step_by_least.Goals as goal

pub returns-clause-gives : goal.returns-clause-gives
returns-clause-gives g c =
    let s = c.step.ensures in
    record { stepped = s.stepped; applied = s.applied; order = s.order; counted = s.counted; half = s.half; err = s.err }

pub returns-clause-symmetry : goal.returns-clause-symmetry
returns-clause-symmetry g c =
    on_ok3 c.step.result (λ r o s u. grew_by_price _ _ _ _ _ _ _ c.args.grid.now.table u refl o s)
    c.step.ensures.stepped.rows c.step.ensures.order c.step.ensures.counted.symmetry

pub returns-clause-shift : goal.returns-clause-shift
returns-clause-shift g c =
    on_ok3 c.step.result (λ r o s d known u shifts. grew_by_shift d _ _ _ _ _ _ _ c.args.grid.now.table u shifts (r d known) o s)
    c.step.ensures.stepped.rows c.step.ensures.order c.step.ensures.counted.shift

pub returns-clause-price_law : goal.returns-clause-price_law
returns-clause-price_law g c = λ t o h u. price_is_least o t h u (command_symmetry (command_value c.args.command))

pub returns-clause-shift_law : goal.returns-clause-shift_law
returns-clause-shift_law g c = λ d t o h u shifts. shift_is_least d o t h u (command_value c.args.command) shifts
