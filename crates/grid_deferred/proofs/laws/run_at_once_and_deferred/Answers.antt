use Rattle.std.proofs.Common.{refl}
use Rattle.grid_deferred.proofs.Lemmas.{agree_rows, agree_order, agree_replies, on_both_ok, if_both_ok}
use Rattle.grid_deferred.proofs.laws.run_at_once_and_deferred.Goals as goal

pub returns-clause-same_rows : goal.returns-clause-same_rows
returns-clause-same_rows g c =
    on_both_ok c.run-at_once.result c.run_deferred-deferred.result
    (λ v w r q. agree_rows _ _ _ _ _ _ _ _ _ _ _ _ _ _ r q c.requires.rows c.requires.commands)
    c.run-at_once.ensures.gives.ran c.run_deferred-deferred.ensures.gives.ran

pub returns-clause-same_order : goal.returns-clause-same_order
returns-clause-same_order g c =
    on_both_ok c.run-at_once.result c.run_deferred-deferred.result
    (λ v w r q. agree_order _ _ _ _ _ _ _ _ _ _ _ _ _ _ r q c.requires.commands)
    c.run-at_once.ensures.gives.ran c.run_deferred-deferred.ensures.gives.ran

pub returns-clause-same_replies : goal.returns-clause-same_replies
returns-clause-same_replies g c =
    if_both_ok c.run-at_once.result c.run_deferred-deferred.result
    (λ v w r q. agree_replies _ _ _ _ _ _ _ _ _ _ _ _ _ _ r q c.requires.rows c.requires.commands)
    c.run-at_once.ensures.gives.ran c.run_deferred-deferred.ensures.gives.ran

pub returns-clause-law : goal.returns-clause-law
returns-clause-law g c d xs old other_old new other_new first last other_first other_last answers others r q rows known =
    (agree_rows _ _ _ _ _ _ _ _ _ _ _ _ _ _ r q rows refl d known, agree_replies _ _ _ _ _ _ _ _ _ _ _ _ _ _ r q rows refl d known)
