use Rattle.std.proofs.Common.{ℕ}
use Rattle.grid_paths.proofs.Common.{CostWalk, IsCheapestPath}
use Rattle.grid_paths.proofs.Lemmas.{HoldsOfAnswers-if_found, found_in_range}
use Rattle.grid_paths.proofs.cheap_path.cheapest_path.Goals as goal

pub returns : goal.returns
returns g c =
    let cheapest = HoldsOfAnswers-if_found _ _ _ c.path_over.result
    (λ costs. (n sum : ℕ) → CostWalk c.args.connectivity costs c.args.from c.args.to n sum → ⊥) (λ costs path. IsCheapestPath c.args.connectivity costs c.args.from c.args.to path.0.items path.1)
    c.in_ok-costs.costs.rows c.in_ok-costs.ensures.answers c.in_ok-costs.ensures.cells c.path_over.ensures in
    record {
      cheapest = cheapest;
      in_range = found_in_range _ _ c.args.connectivity _ c.path_over.result _ c.args.from c.args.to (λ path. path.0.items) (λ path. path.1) cheapest;
    }
