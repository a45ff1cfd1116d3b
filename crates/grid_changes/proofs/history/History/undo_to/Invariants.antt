use Rattle.std.proofs.Common.{◌≡◌}
use Rattle.grid_changes.specs.Timeline.{IsBackBy}
use Rattle.grid_changes.proofs.history.History.undo_to.Given as goal

abbrev pub invariant-loop-taken : goal.invariant-loop-taken
invariant-loop-taken g l = record {
  back : IsBackBy l._taken l.initial.self l.self;
  kept : l._taken ≡ 0 → l.self ≡ l.initial.self;
}
