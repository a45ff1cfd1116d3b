use Rattle.std.proofs.Common.{rules}
use Rattle.grid_paths.proofs.Common.{HasLeastFrom}
use Rattle.grid_paths.proofs.Lemmas.{HoldsOfAnswers-if_ok}
use Rattle.grid_paths.proofs.search.distances_from.Goals as goal

pub returns-clause-least : goal.returns-clause-least
returns-clause-least g c =
    HoldsOfAnswers-if_ok _ _ _ c.search_from.result (λ mask steps. HasLeastFrom c.args.connectivity mask c.args.starts.now steps.rows)
    c.in_ok-mask.mask.rows c.in_ok-mask.ensures.answers c.in_ok-mask.ensures.cells (search rules)
