-- What a list of commands does to a table and replies: the plain run. And what it costs.
use Rattle.std.specs.Prelude.{◌≡◌, ◌⊎◌, ℕ, ◌+◌, ◌<◌, ⊤, List, [], ◌∷◌, length, slice_get, take, map, All, IsSomeAnd, IsTrue, Result, IfOk, IfErr, Vec}
use Rattle.grid_base.specs.Prelude.{GridValue, order_after, Counts, saturating_count, ClonesAreEqual}
use Rattle.grid_base.specs.declared.order.Order.{Order}
use Rattle.grid_commands.specs.declared.command.Reply.{Reply}
use Rattle.grid_commands.specs.declared.command.RunStopped.{RunStopped}
use Rattle.grid_commands.specs.Command.{CommandValue}
use Rattle.grid_commands.specs.Reply.{ReplyValue, reply_value}
use Rattle.grid.specs.Step.{step_rows, step_reply, memory_at, RowsAreKnown, ReplyIsKnown}
use Rattle.grid.specs.Cost.{command_symmetry, list_symmetry, price_at, shift_at}

module _ {T : Type 0} where
  -- what the rows after each of these commands rest on
  abbrev pub AreKnown : (T → Type 0) → (T → T → Type 0) → T → List (CommandValue T) → Type 0
  AreKnown is_default is_clone d commands = All (RowsAreKnown is_default is_clone d) commands

  -- the table after a list of commands, where d is the cells' default
  abbrev pub run_rows : T → List (CommandValue T) → List (List T) → List (List T)
  run_rows d [] t = t
  run_rows d (x ∷ xs) t = run_rows d xs (step_rows d x t)

  -- their replies
  abbrev pub run_replies : T → List (CommandValue T) → List (List T) → List (ReplyValue T)
  run_replies d [] t = []
  run_replies d (x ∷ xs) t = step_reply x t ∷ run_replies d xs (step_rows d x t)

  -- where they are known, the replies so far are those that are due
  abbrev pub AreDue : (T → T → Type 0) → T → List (CommandValue T) → List (List T)
      → List (ReplyValue T) → Type 0
  AreDue is_clone d (x ∷ xs) t (answer ∷ answers) =
      (ReplyIsKnown is_clone x → answer ≡ step_reply x t)
      × AreDue is_clone d xs (step_rows d x t) answers
  -- no more commands, or no more replies
  AreDue is_clone d xs t answers = ⊤

  -- how many swaps for symmetries they cost, each at the table before it
  abbrev pub run_price : T → List (CommandValue T) → List (List T) → ℕ
  run_price d [] t = 0
  run_price d (x ∷ xs) t = price_at x t
      + run_price d xs (step_rows d x t)

  -- how many shifts, each at the table and the order before it
  abbrev pub run_shift : T → List (CommandValue T) → Order → List (List T) → ℕ
  run_shift d [] o t = 0
  run_shift d (x ∷ xs) o t =
      shift_at x o t
      + run_shift d xs (order_after (command_symmetry x) o) (step_rows d x t)

  -- the rows and the counts that a run of these commands leaves, where d is the cells' default
  pub record LeftByRun (d : T) (commands : List (CommandValue T)) (old new : GridValue T)
      (before after : Counts) : Type 0 where
    pub rows : new.rows ≡ run_rows d commands old.rows
    pub symmetry : after.symmetry ≡ saturating_count before.symmetry (run_price d commands old.rows)
    pub shift : after.shift ≡ saturating_count before.shift
        (run_shift d commands old.order old.rows)

  -- what a run of these commands makes of a grid and a tally, and what it replies: a reply a
  -- command, and where the rows are known, what is due: at a command whose reply is known, and at
  -- all of them where clones equal their source
  pub record Ran (is_clone : T → T → Type 0) (is_default : T → Type 0)
      (commands : List (CommandValue T)) (old new : GridValue T) (before after : Counts)
      (answers : List (ReplyValue T)) : Type 0 where
    pub count : length answers ≡ length commands
    pub order : new.order ≡ order_after (list_symmetry commands) old.order
    pub left : (d : T) → AreKnown is_default is_clone d commands
        → LeftByRun d commands old new before after
    pub due : (d : T) → AreKnown is_default is_clone d commands
        → AreDue is_clone d commands old.rows answers
    pub replies : (d : T) → AreKnown is_default is_clone d commands
        → ClonesAreEqual is_clone → answers ≡ run_replies d commands old.rows

  -- a run may stop for memory after `finished` commands, at this table: the next command takes
  -- memory, or none was done of a list that isn't empty
  abbrev pub MayStop : List (CommandValue T) → ℕ → List (List T) → Type 0
  MayStop commands finished t =
      ((finished ≡ 0) × (0 < length commands))
      ⊎ IsSomeAnd (slice_get commands finished)
      (λ x. IsTrue (memory_at x t))

module _ {T A : Type 0} where
  -- what a run of these commands makes of a grid and a tally, and what it returns: the replies, or,
  -- where it stops, what the commands done replied; then it says the same of those
  pub record RunGives (is_clone : T → T → Type 0) (is_default : T → Type 0)
      (commands : List (CommandValue T)) (old new : GridValue T) (before after : Counts)
      (result : Result (Vec (Reply T A) A) (RunStopped T A)) : Type 0 where
    pub ran : IfOk result (λ replies. Ran is_clone is_default
        commands old new before after (map reply_value replies.items))
    pub stopped : IfErr result (λ stop. Ran is_clone is_default
        (take stop.done commands) old new before after (map reply_value stop.replies.items))
    pub stop : IfErr result (λ stop. MayStop commands stop.done new.rows)
