-- What one command makes of a table, and what it counts.
use Rattle.std.specs.Prelude.{◌≡◌, List, Result, OnOk, OnErr, IfOk, IsTrue}
use Rattle.grid_base.specs.Prelude.{GridValue, Counts, saturating_count, ClonesAreEqual}
use Rattle.grid_commands.specs.declared.command.Reply.{Reply}
use Rattle.grid_commands.specs.Command.{CommandValue}
use Rattle.grid_commands.specs.Reply.{reply_value}
use Rattle.grid.specs.Step.{step_rows, step_reply, memory_at, RowsAreKnown, ReplyIsKnown}
use Rattle.grid.specs.Cost.{price_at, shift_at}

module _ {T A E : Type 0} where
  -- the rows after a command, and its reply, which clones equal to their source make known at every
  -- command; an error comes only at a command that takes memory
  pub record Stepped (is_default : T → Type 0) (is_clone : T → T → Type 0) (x : CommandValue T)
      (old new : List (List T)) (result : Result (Reply T A) E) : Type 0 where
    pub rows : OnOk result ((d : T) → RowsAreKnown is_default is_clone d x
        → new ≡ step_rows d x old)
    pub reply : IfOk result (λ reply. ReplyIsKnown is_clone x
        → reply_value reply ≡ step_reply x old)
    pub reply_by_clones : IfOk result (λ reply. ClonesAreEqual is_clone
        → reply_value reply ≡ step_reply x old)
    pub err_memory : OnErr result (IsTrue (memory_at x old))

  -- the counts after a command; an error leaves both as they were
  pub record StepCounted (x : CommandValue T) (old : GridValue T) (before after : Counts)
      (result : Result (Reply T A) E) : Type 0 where
    pub symmetry : OnOk result (after.symmetry ≡ saturating_count before.symmetry
        (price_at x old.rows))
    pub shift : OnOk result (after.shift ≡ saturating_count before.shift
        (shift_at x old.order old.rows))
    pub err_symmetry : OnErr result (after.symmetry ≡ before.symmetry)
    pub err_shift : OnErr result (after.shift ≡ before.shift)
