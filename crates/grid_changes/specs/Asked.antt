-- What a command comes to at a board. No public clause cites this module.
use Rattle.std.specs.Prelude.{◌≡◌, Bool, true, false}
use Rattle.grid.specs.Prelude.{CommandValue, apply, reply_value, act, order_after, command_symmetry, step_rows, step_reply, RowsAreKnown}
use Rattle.grid_base.specs.declared.words.Symmetry.{Symmetry}
use Rattle.grid_commands.specs.declared.command.Reply.{Reply}
use Rattle.grid_changes.specs.declared.asked.Asked.{Asked}
use Rattle.grid_changes.specs.declared.asked.Asked.TheVariants as an
use Rattle.grid_changes.specs.Entry.{is_step, AnswerIsKnown}
use Rattle.grid_changes.specs.Timeline.{Board, Timeline, board_of, Recorded}
use Rattle.grid_changes.specs.Change.{Fits, after}

-- a command leaves this board, and is a step or none
pub record Leaves {T : Type 0} (is_default : T → Type 0) (is_clone : T → T → Type 0)
    (x : CommandValue T) (old new : Board T) (step : Bool) : Type 0 where
  pub rows : (d : T) → RowsAreKnown is_default is_clone d x → new.rows ≡ step_rows d x old.rows
  pub applied : (s : Symmetry) → x ≡ apply s → new.rows ≡ act s old.rows
  pub order : new.order ≡ order_after (command_symmetry x) old.order
  pub is_one : is_step x old.rows ≡ step

module _ {T A : Type 0} (is_default : T → Type 0) (is_clone : T → T → Type 0) where
  -- what is asked does what the command does
  pub record IsDue (x : CommandValue T) (old new : Board T) (reply : Reply T A) (step : Bool)
      : Type 0 where
    pub leaves : Leaves is_default is_clone x old new step
    pub replied : AnswerIsKnown is_clone x → reply_value reply ≡ step_reply x old.rows

  abbrev pub IsAsked : CommandValue T → Board T → Asked T A → Type 0
  IsAsked x old (an.Answer reply) = IsDue x old old reply false
  IsAsked x old (an.Making change reply) = Fits change old
      × IsDue x old (after change old) reply true

-- what a history says of a command that it executed, and of the reply
pub record HasStepped {T A : Type 0} (is_default : T → Type 0) (is_clone : T → T → Type 0)
    (x : CommandValue T) (old new : Timeline T) (reply : Reply T A) : Type 0 where
  pub due : IsDue is_default is_clone x (board_of old.grid) (board_of new.grid) reply
      (is_step x old.grid.rows)
  pub recorded : Recorded x old new
