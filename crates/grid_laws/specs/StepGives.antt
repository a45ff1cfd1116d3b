-- All that one command does, in one word.
use Rattle.std.specs.Prelude.{◌≡◌, ◌+◌, ◌≤◌, Result, OnOk, OnErr}
use Rattle.grid.specs.Prelude.{row_count, col_count, GridValue, act, order_after, half, Counts, CommandValue, apply, command_symmetry, Stepped, StepCounted}
use Rattle.grid_base.specs.declared.words.Symmetry.{Symmetry}
use Rattle.grid_commands.specs.declared.command.Reply.{Reply}

-- what a step by this command makes of a grid and a tally, and what it returns
pub record StepGives {T A E : Type 0} (is_default : T → Type 0) (is_clone : T → T → Type 0)
    (x : CommandValue T) (old new : GridValue T) (before after : Counts)
    (result : Result (Reply T A) E) : Type 0 where
  pub stepped : Stepped is_default is_clone x old.rows new.rows result
  pub applied : OnOk result ((s : Symmetry) → x ≡ apply s → new.rows ≡ act s old.rows)
  pub order : OnOk result (new.order ≡ order_after (command_symmetry x) old.order)
  pub counted : StepCounted x old before after result
  pub half : after.symmetry ≤ before.symmetry + half (row_count old.rows) (col_count old.rows)
  pub err : OnErr result (new ≡ old)
