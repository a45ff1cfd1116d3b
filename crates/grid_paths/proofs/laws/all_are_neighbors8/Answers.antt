use Rattle.std.proofs.Common.{◌↔◌, Contains, sym, subst}
use Rattle.grid_near.specs.declared.steps.Connectivity.TheVariants.{Eight}
use Rattle.grid_paths.proofs.Common.{IsStep}
use Rattle.grid_paths.proofs.Lemmas.{all-near}
use Rattle.grid_paths.proofs.laws.all_are_neighbors8.Goals as goal

pub returns : goal.returns
returns g c =
    record {
      gives = c.neighbors8.ensures.gives;
      law = λ at x e.
          subst (λ list. IsStep Eight c.args.from at ↔ Contains list (at, x)) (sym c.neighbors8.ensures.gives.0)
          (all-near c.args.grid.now.rows c.args.from.0 c.args.from.1 at x e);
    }
