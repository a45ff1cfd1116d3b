-- What an edit of rows or columns makes of a grid and a tally. Only private clauses cite these two:
-- those of `Grid::step` say the same of any command.
use Rattle.std.specs.Prelude.{◌≡◌, Result, OnOk, OnErr, IfOk, IsTrue}
use Rattle.grid_base.specs.Prelude.{GridValue, Counts, saturating_count}
use Rattle.grid_commands.specs.declared.command.Axis.{Axis}
use Rattle.grid_commands.specs.declared.command.Reply.{Reply}
use Rattle.grid_commands.specs.Command.{Edit, lines}
use Rattle.grid_commands.specs.Reply.{reply_value}
use Rattle.grid.specs.Step.{step_rows, step_reply, memory_at, EditIsKnown, EditReplyIsKnown}
use Rattle.grid.specs.Cost.{shift_at}

module _ {T A E : Type 0} where
  -- the grid, and what is replied; an error leaves the grid as it was
  pub record Edited (is_default : T → Type 0) (is_clone : T → T → Type 0) (a : Axis) (e : Edit T)
      (old new : GridValue T) (result : Result (Reply T A) E) : Type 0 where
    pub rows : OnOk result ((d : T) → EditIsKnown is_default d e
        → new.rows ≡ step_rows d (lines a e) old.rows)
    pub reply : IfOk result (λ reply. EditReplyIsKnown is_clone e
        → reply_value reply ≡ step_reply (lines a e) old.rows)
    pub order : new.order ≡ old.order
    pub err_grid : OnErr result (new ≡ old)
    pub err_memory : OnErr result (IsTrue (memory_at (lines a e) old.rows))

  -- the tally; an error leaves it as it was
  pub record EditCounted (a : Axis) (e : Edit T) (old : GridValue T) (before after : Counts)
      (result : Result (Reply T A) E) : Type 0 where
    pub symmetry : after.symmetry ≡ before.symmetry
    pub shift : OnOk result (after.shift ≡ saturating_count before.shift
        (shift_at (lines a e) old.order old.rows))
    pub err_shift : OnErr result (after.shift ≡ before.shift)
