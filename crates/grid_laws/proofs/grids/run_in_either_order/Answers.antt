use Rattle.std.proofs.Common.{map, ap, sym, ◌∙◌}
use Rattle.grid_laws.proofs.Common.{reply_value, run_rows, run_replies, same_run_rows, same_run_replies}
use Rattle.grid_laws.proofs.grids.run_in_either_order.Goals as goal

pub returns-clause-same_rows : goal.returns-clause-same_rows
returns-clause-same_rows g c =
    same_run_rows _ _ (λ v. map reply_value v.items) (λ v. map reply_value v.items) _ _ _ _ _ _ _ _ _ _ c.requires.same c.requires.same_commands
    c.run-first.result c.run-second.result c.run-first.ensures.gives.ran c.run-second.ensures.gives.ran

pub returns-clause-same_replies : goal.returns-clause-same_replies
returns-clause-same_replies g c =
    same_run_replies _ _ (λ v. map reply_value v.items) (λ v. map reply_value v.items) _ _ _ _ _ _ _ _ _ _ c.requires.same c.requires.same_commands
    c.run-first.result c.run-second.result c.run-first.ensures.gives.ran c.run-second.ensures.gives.ran

pub returns-clause-law : goal.returns-clause-law
returns-clause-law g c d xs old other_old new other_new first last other_first other_last answers others r q rows known =
    ((q.left d known).rows ∙ (ap (run_rows d xs) rows ∙ sym (r.left d known).rows), λ clones. q.replies d known clones ∙ (ap (run_replies d xs) rows ∙ sym (r.replies d known clones)))
