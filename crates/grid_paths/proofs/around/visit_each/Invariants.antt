use Rattle.std.proofs.Common.{drop}
use Rattle.grid_paths.proofs.Common.{Outcome, VisitsEach}
use Rattle.grid_paths.proofs.around.visit_each.Given as goal

abbrev pub invariant-loop-near : goal.invariant-loop-near
invariant-loop-near g l =
    let visits = g.V.Visit.visits l.with in
    record {
      can : g.V.Visit.can_visit l.with l.search;
      rest : (r : Outcome) (s : _) → VisitsEach visits (drop l.near-index l.at) r l.search s → VisitsEach visits l.at r l.fn.search s;
    }
