-- Whole numbers have one default, 0, and their clones are equal.
use Rattle.std.proofs.Common.{pos}
use Rattle.grid_play.proofs.RunLemmas.{rows_are_known}
use Rattle.grid_play.proofs.run.run_commands.Goals as goal

pub returns-in-Ok-clause-replies : goal.returns-in-Ok-clause-replies
returns-in-Ok-clause-replies g c =
    c.in-Ok.ensures.gives.ran.replies (pos 0) (λ k d h. rows_are_known _ _ (pos 0) (λ x e. e) (λ x y e. e) _) (λ x y e. e)

pub returns-in-Ok-clause-rows : goal.returns-in-Ok-clause-rows
returns-in-Ok-clause-rows g c =
    (c.in-Ok.ensures.gives.ran.left (pos 0) (λ k d h. rows_are_known _ _ (pos 0) (λ x e. e) (λ x y e. e) _)).rows

pub returns-in-Ok-run-clause-replies : goal.returns-in-Ok-run-clause-replies
returns-in-Ok-run-clause-replies g c =
    c.in-Ok-run.ensures.gives.ran.replies (pos 0) (λ k d h. rows_are_known _ _ (pos 0) (λ x e. e) (λ x y e. e) _) (λ x y e. e)

pub returns-in-Ok-run-clause-rows : goal.returns-in-Ok-run-clause-rows
returns-in-Ok-run-clause-rows g c =
    (c.in-Ok-run.ensures.gives.ran.left (pos 0) (λ k d h. rows_are_known _ _ (pos 0) (λ x e. e) (λ x y e. e) _)).rows
