use Rattle.std.proofs.Common.{arith, rules, ap, ◌∙◌, ◌<◌, ◌≤◌, length}
use Rattle.grid_base.proofs.Common.{remaining, row}
use Rattle.grid_view.specs.Folded.{GoesOver}
use Rattle.grid_view.proofs.FoldLemmas.{callable_row, callable_others, goes_over_rows, goes_over_none}
use Rattle.grid_view.proofs.lines.ViewRowIter.fold_cells.Goals as goal

pub loop-r-init : goal.loop-r-init
loop-r-init g c =
    let same = c.into_iter-r-iterator.ensures.into_iter_gives in
    let left = ap (λ a. remaining a.start a.end c.self.inside.view.rows) same ∙ c.self.view_is in
    let within : c.into_iter-r-iterator.result.end ≤ length c.self.inside.view.rows = omega (arith, ap (λ a. a.end) same, c.self.invariant.within) in
    (within, rw left c.requires.calls, λ end over. rw (← left) over)

pub fold_row-at-requires : goal.fold_row-at-requires
fold_row-at-requires g c κs =
    let steps = c.in-Some.ensures.steps.1 in
    let lt : c.loop-r.r-iterator.start < c.loop-r.r-iterator.end = omega (arith, steps.0) in
    let calls = callable_row g.F.FnMut _ _ _ lt c.loop-r.invariant.0 _ c.loop-r.invariant.1 in
    (search rules, (omega (arith, steps.1, lt, c.loop-r.invariant.0), rw steps.1 calls))

pub loop-r-preserved : goal.loop-r-preserved
loop-r-preserved g c =
    let steps = c.in-Some.ensures.steps in
    let lt : c.loop-r.r-iterator.start < c.loop-r.r-iterator.end = omega (arith, steps.1.0) in
    let gone : GoesOver g.F.FnMut c.loop-r.at (row c.self.inside.view.rows c.loop-r.r-iterator.start) c.fold_row-at.result = rw (← steps.1.1) c.fold_row-at.ensures in
    let calls = callable_others g.F.FnMut _ _ _ lt c.loop-r.invariant.0 _ _ gone c.loop-r.invariant.1 in (
      omega (arith, steps.0, c.loop-r.invariant.0),
      rw (steps.1.2, steps.0) calls,
      λ end over.
          c.loop-r.invariant.2 end (goes_over_rows g.F.FnMut _ _ _ lt c.loop-r.invariant.0 _ _ _ gone (rw (← steps.1.2, ← steps.0) over)),
    )

pub returns : goal.returns
returns g c = c.loop-r.invariant.2 c.loop-r.at (goes_over_none g.F.FnMut _ _ _ _ c.in-None.ensures.steps.1.0)
