use Rattle.std.proofs.Common.{sym, subst}
use Rattle.grid_paths.proofs.Common.{AreRegions, AreNumbers}
use Rattle.grid_paths.proofs.Lemmas.{AreNumbers-end, AreRegions-end}
use Rattle.grid_paths.proofs.numbered.regions.Goals as goal

pub returns-clause-numbers : goal.returns-clause-numbers
returns-clause-numbers g c =
    let u = c.in_ok-numbers.numbers in
    subst (λ v. AreNumbers v c.in_ok-numbers.count) (sym c.in_ok-plain.ensures.cells)
    (AreNumbers-end c.args.connectivity g.T.PartialEq.eq c.args.grid.now.rows c.args.grid.now.table u.rows u.table c.in_ok-numbers.ensures.size c.in_ok-numbers.count c.in_ok-numbers.ensures.scanned)

pub returns-clause-regions : goal.returns-clause-regions
returns-clause-regions g c =
    λ e.
    let t = c.args.grid.now.rows in
    let u = c.in_ok-numbers.numbers in
    subst (λ v. AreRegions c.args.connectivity g.T.PartialEq.eq t v) (sym c.in_ok-plain.ensures.cells)
    (AreRegions-end c.args.connectivity g.T.PartialEq.eq t c.args.grid.now.table u.rows u.table c.in_ok-numbers.ensures.size c.in_ok-numbers.count c.in_ok-numbers.ensures.scanned e)
