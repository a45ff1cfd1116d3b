use Rattle.std.proofs.Common.{subst, sym}
use Rattle.grid.specs.Prelude.{InRange}
use Rattle.grid_changes.proofs.AskedLemmas.{set_due, set_refused, stepped_none, stepped_on}
use Rattle.grid_changes.specs.Timeline.{board_of}
use Rattle.grid_changes.proofs.history.History.step_set.Goals as goal

pub returns-then-not-contains-clause-stepped : goal.returns-then-not-contains-clause-stepped
returns-then-not-contains-clause-stepped g c =
    let r = c.args.row in
    let k = c.args.col in
    stepped_none _ _ _ c.args.self.now _
    (set_refused _ _ (board_of c.args.self.now.grid) r k c.args.value
    (λ within. cc (c.contains.ensures.1 (subst (λ h. InRange h.grid.rows r k) (sym c.self.view_is) within), c.if-not-contains.true)))

pub returns-clause-stepped : goal.returns-clause-stepped
returns-clause-stepped g c =
    let r = c.args.row in
    let k = c.args.col in
    let within = subst (λ h. InRange h.grid.rows r k) c.self.view_is (c.contains.ensures.0 (cc c.if-not-contains.false)) in
    let wrote = c.in_ok-record_write.ensures in
    stepped_on _ _ _ c.args.self.now _ _ c.record_write.new.self
    (set_due _ _ (board_of c.args.self.now.grid) r k c.args.value within) wrote.rows wrote.order wrote.recorded
