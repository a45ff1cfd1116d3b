use Rattle.std.proofs.Common.{refl}
use Rattle.test_support.proofs.PlainLemmas.{cell-written}
use Rattle.test_support.proofs.plain.cells.write.Goals as goal

pub returns-in-Some-get_mut : goal.returns-in-Some-get_mut
returns-in-Some-get_mut g c =
    let found = c.in-Some.ensures.item in
    cell-written (λ l. l.items) _ _ _ c.in-Some.cells.now _ _ found.3.0 found.1 refl
