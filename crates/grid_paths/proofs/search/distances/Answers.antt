use Rattle.std.proofs.Common.{refl}
use Rattle.grid_paths.proofs.Common.{IfOk-weaker, HasLeastSteps}
use Rattle.grid_paths.proofs.Lemmas.{HoldsOfAnswers-if_ok, HasLeastSteps-one}
use Rattle.grid_paths.proofs.search.distances.Goals as goal

pub returns-clause-least : goal.returns-clause-least
returns-clause-least g c =
    let mask = c.in_ok-mask.mask.rows in
    HoldsOfAnswers-if_ok _ _ _ c.search_from.result (λ mask steps. HasLeastSteps c.args.connectivity mask c.args.from steps.rows)
    mask c.in_ok-mask.ensures.answers c.in_ok-mask.ensures.cells
    (IfOk-weaker c.search_from.result _ _ (λ steps h. HasLeastSteps-one c.args.connectivity mask c.args.from steps.rows (h refl)) c.search_from.ensures.least)
