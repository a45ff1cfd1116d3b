use Rattle.std.proofs.Common.{◌≡◌, refl, rules}
use Rattle.grid_deferred.proofs.Common.{command_value, apply, step_rows, RowsAreKnown, base, shown, either_way}
use Rattle.grid_deferred.proofs.Lemmas.{always_ok, pending-then, shown-then, reply-then, pending-still, applies-none, none_applied, get-rows}
use Rattle.grid.proofs.LineEditLemmas.{read_kept}
use Rattle.grid_base.specs.declared.words.Symmetry.{Symmetry}
use Rattle.grid_commands.specs.declared.command.Axis.TheVariants.{Row, Col}
use Rattle.grid_deferred.proofs.deferred.Deferred.step.Goals as goal

pub returns-in-Apply-clause-stepped : goal.returns-in-Apply-clause-stepped
returns-in-Apply-clause-stepped g c = record {
  rows = λ d h. rw c.in-Apply.is (shown-then d _ _ _ _ c.then-self.ensures c.args.self.now.base.now.table);
  reply = λ h. rw c.in-Apply.is (reply-then _ _);
  reply_by_clones = λ h. rw c.in-Apply.is (reply-then _ _);
  err_memory = tt;
}

pub returns-in-Apply-clause-pending : goal.returns-in-Apply-clause-pending
returns-in-Apply-clause-pending g c = rw c.in-Apply.is (pending-then g.row.T.Denot _ _ _ c.then-self.ensures)

pub returns-in-Get-clause-stepped : goal.returns-in-Get-clause-stepped
returns-in-Get-clause-stepped g c =
    let p : (d : g.row.T.Denot) → RowsAreKnown g.T.Default.is_default g.T.Clone.is_clone d (command_value c.args.command) → shown c.args.self.now ≡ step_rows d (command_value c.args.command) (shown c.args.self.now) =
    λ d h. rw c.in-Get.is (get-rows d _ _ _) in
    record { rows = always_ok _ p; reply = rw c.in-Get.is (search rules); reply_by_clones = search rules; err_memory = search rules }

pub returns-in-Get-clause-pending : goal.returns-in-Get-clause-pending
returns-in-Get-clause-pending g c = always_ok _ (pending-still (command_value c.args.command) _ (rw c.in-Get.is refl))

pub returns-in-Row-clause-stepped : goal.returns-in-Row-clause-stepped
returns-in-Row-clause-stepped g c =
    let p : (d : g.row.T.Denot) → RowsAreKnown g.T.Default.is_default g.T.Clone.is_clone d (command_value c.args.command) → shown c.args.self.now ≡ step_rows d (command_value c.args.command) (shown c.args.self.now) =
    λ d h. rw c.in-Row.is (read_kept d Row _ _) in
    record { rows = always_ok _ p; reply = rw c.in-Row.is (search rules); reply_by_clones = search rules; err_memory = search rules }

pub returns-in-Row-clause-pending : goal.returns-in-Row-clause-pending
returns-in-Row-clause-pending g c = always_ok _ (pending-still (command_value c.args.command) _ (rw c.in-Row.is refl))

pub returns-in-Col-clause-stepped : goal.returns-in-Col-clause-stepped
returns-in-Col-clause-stepped g c =
    let p : (d : g.row.T.Denot) → RowsAreKnown g.T.Default.is_default g.T.Clone.is_clone d (command_value c.args.command) → shown c.args.self.now ≡ step_rows d (command_value c.args.command) (shown c.args.self.now) =
    λ d h. rw c.in-Col.is (read_kept d Col _ _) in
    record { rows = always_ok _ p; reply = rw c.in-Col.is (search rules); reply_by_clones = search rules; err_memory = search rules }

pub returns-in-Col-clause-pending : goal.returns-in-Col-clause-pending
returns-in-Col-clause-pending g c = always_ok _ (pending-still (command_value c.args.command) _ (rw c.in-Col.is refl))

pub returns-in_default : goal.returns-in_default
returns-in_default g c =
    let e = c.step_through.ensures in
    let still = applies-none c.args.command c.in_default.not-Apply in
    let none : (u : Symmetry) → command_value c.args.command ≡ apply u → c.step_through.new.base ≡ base c.args.self.now =
    λ u is. absurd (none_applied (command_value c.args.command) still u is) in
    record {
      same_reference = refl;
      stepped = e.stepped;
      applied = always_ok _ none;
      pending = always_ok _ (pending-still (command_value c.args.command) _ still);
      order = e.order;
      symmetry = e.symmetry;
      shift = e.shift;
      err_shift = e.err_shift;
      err_base = e.err_base;
      err_pending = either_way _ refl;
    }
