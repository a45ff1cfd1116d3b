use Rattle.std.proofs.Common.{ap, sym, subst, ◌∙◌}
use Rattle.grid_paths.proofs.Common.{IfOk-weaker, HasLeastCosts, row_count, col_count}
use Rattle.grid_paths.proofs.Lemmas.{IsNext-ready, IsSearching-next, IsSearching-smaller, IsOver-least}
use Rattle.grid_paths.proofs.costs.search_by.Goals as goal

pub loop-here-init : goal.loop-here-init
loop-here-init g c = c.in_ok-search.ensures.search c.args.connectivity

pub relax_around-requires : goal.relax_around-requires
relax_around-requires g c = IsNext-ready c.loop-here.invariant c.in-Some.ensures

pub loop-here-smaller : goal.loop-here-smaller
loop-here-smaller g c = IsSearching-smaller c.loop-here.invariant c.in-Some.ensures c.in_ok-relax_around.ensures

pub loop-here-preserved : goal.loop-here-preserved
loop-here-preserved g c = IsSearching-next c.loop-here.invariant c.in-Some.ensures c.in_ok-relax_around.ensures

pub returns-clause-least : goal.returns-clause-least
returns-clause-least g c =
    IfOk-weaker c.all_sums.result _ (λ sums. HasLeastCosts c.args.connectivity c.args.costs.rows c.args.from sums.rows)
    (λ made is. subst (λ u. HasLeastCosts c.args.connectivity c.args.costs.rows c.args.from u) (sym is) (IsOver-least c.loop-here.invariant c.in_default.ensures))
    c.all_sums.ensures.cells

pub returns-clause-order : goal.returns-clause-order
returns-clause-order g c =
    IfOk-weaker c.all_sums.result _ _ (λ made is. is ∙ (ap (λ u. u.order) c.in_default.ensures.sums ∙ c.loop-here.invariant.order)) c.all_sums.ensures.order

pub returns-clause-size : goal.returns-clause-size
returns-clause-size g c =
    let s = c.loop-here.invariant in
    let sums = c.in_default.ensures.sums in
    IfOk-weaker c.all_sums.result _ _
    (λ made is. record {
      rows = is.rows ∙ (ap (λ u. row_count u.rows) sums ∙ (s.whole.size.rows ∙ s.left.rows));
      cols = is.cols ∙ (ap (λ u. col_count u.rows) sums ∙ (s.whole.size.cols ∙ s.left.cols));
    })
    c.all_sums.ensures.size
