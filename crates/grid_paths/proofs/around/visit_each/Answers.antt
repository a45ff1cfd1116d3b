use Rattle.std.proofs.Common.{◌∷◌, ap, inr, is_err, sym, subst, suc, drop, get_or}
use Rattle.std.proofs.Math.Seq.{drop-cons}
use Rattle.grid_paths.proofs.Common.{VisitsEach}
use Rattle.grid_paths.proofs.around.visit_each.Goals as goal

pub returns-in_err-visit : goal.returns-in_err-visit
returns-in_err-visit g c =
    let xs = c.args.at.now in
    let l = c.loop-near in
    let i = l.near-index in
    let r = c.from_residual.result in
    let new = c.visit.new.self in
    let visits = g.V.Visit.visits c.args.with in
    let failed : VisitsEach visits (get_or xs i (0, 0) ∷ drop (suc i) xs) r l.search new = inr (c.visit.result, ap is_err c.in_err-visit.was, c.from_residual.ensures.0, c.visit.ensures) in
    l.invariant.rest r new (subst (λ ys. VisitsEach visits ys r l.search new) (sym (drop-cons xs i (0, 0) c.loop-near-test.true)) failed)
