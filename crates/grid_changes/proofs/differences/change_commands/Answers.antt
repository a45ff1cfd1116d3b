use Rattle.std.proofs.Common.{ap, ◌∙◌, subst}
use Rattle.grid.proofs.Common.{IfOk-weaker}
use Rattle.grid.specs.Prelude.{run_rows}
use Rattle.std.specs.List.{AllZip}
use Rattle.grid_changes.specs.Differences.{writes, WritesClone}
use Rattle.grid_changes.proofs.WriteLemmas.{writes_make}
use Rattle.grid_changes.proofs.differences.change_commands.Goals as goal

pub returns-clause-runs : goal.returns-clause-runs
returns-clause-runs g c =
    let t = g.V.AsView.rows c.args.old.now in
    let u = g.W.AsView.rows c.args.new.now in
    IfOk-weaker c.sets_of.result _ _
    (λ commands are d same equal rows cols.
    ap (λ xs. run_rows d xs t) (are same ∙ ap writes c.changes.ensures.cells)
    ∙ writes_make d u (g.met.W.AsView.table c.args.new.now) g.T.PartialEq.eq t (g.met.V.AsView.table c.args.old.now) rows cols equal)
    c.sets_of.ensures.commands

pub returns-clause-clones : goal.returns-clause-clones
returns-clause-clones g c =
    IfOk-weaker c.sets_of.result _ _
    (λ commands zip. subst (λ v. AllZip (WritesClone g.T.Clone.is_clone) v commands.items) c.changes.ensures.cells zip)
    c.sets_of.ensures.clones
