use Rattle.std.proofs.Common.{ap, ◌∙◌}
use Rattle.grid_changes.specs.Differences.{cells_left}
use Rattle.grid_changes.proofs.ChangedCellLemmas.{left_all}
use Rattle.grid_changes.proofs.WriteLemmas.{gives_changes}
use Rattle.grid_changes.proofs.differences.changes.Goals as goal

pub returns-clause-gives : goal.returns-clause-gives
returns-clause-gives g c =
    let same = g.T.PartialEq.eq in
    let t = g.V.AsView.rows c.args.old.now in
    gives_changes (g.W.AsView.rows c.args.new.now) (g.met.W.AsView.table c.args.new.now) same t _
    (ap (λ v. cells_left same v c.as_view-2.result.rows 0 0) c.as_view.ensures
    ∙ (ap (λ v. cells_left same t v 0 0) c.as_view-2.ensures ∙ left_all same t (g.W.AsView.rows c.args.new.now) (g.met.W.AsView.table c.args.new.now)))
