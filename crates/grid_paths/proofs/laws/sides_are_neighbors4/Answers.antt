use Rattle.std.proofs.Common.{◌↔◌, Contains, sym, subst}
use Rattle.grid_near.specs.declared.steps.Connectivity.TheVariants.{Four}
use Rattle.grid_paths.proofs.Common.{IsStep}
use Rattle.grid_paths.proofs.Lemmas.{sides-near}
use Rattle.grid_paths.proofs.laws.sides_are_neighbors4.Goals as goal

pub returns : goal.returns
returns g c =
    record {
      gives = c.neighbors4.ensures.gives;
      law = λ at x e.
          subst (λ list. IsStep Four c.args.from at ↔ Contains list (at, x)) (sym c.neighbors4.ensures.gives.0)
          (sides-near c.args.grid.now.rows c.args.from.0 c.args.from.1 at x e);
    }
