use Rattle.grid_paths.proofs.Common.{HasLeastCosts}
use Rattle.grid_paths.proofs.Lemmas.{HoldsOfAnswers-if_ok}
use Rattle.grid_paths.proofs.costs.cheapest.Goals as goal

pub returns-clause-least : goal.returns-clause-least
returns-clause-least g c =
    HoldsOfAnswers-if_ok _ _ _ c.search.result (λ costs sums. HasLeastCosts c.args.connectivity costs c.args.from sums.rows)
    c.in_ok-costs.costs.rows c.in_ok-costs.ensures.answers c.in_ok-costs.ensures.cells c.search.ensures.least
