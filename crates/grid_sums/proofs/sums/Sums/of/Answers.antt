use Rattle.std.proofs.Common.{subst, rules}
use Rattle.grid_sums.proofs.BuildLemmas.{weaker}
use Rattle.grid_sums.proofs.sums.Sums.of.Goals as goal

pub returns : goal.returns
returns g c = weaker _ _ _ _ (λ x z p. subst (λ y. g.T.Into.converts y z) p.1 (let said = p.2 in search rules)) c.in_ok-sums.ensures
