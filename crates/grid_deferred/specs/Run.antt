-- What a deferred run of a list of commands leaves and costs.
use Rattle.std.specs.Prelude.{◌≡◌, ℕ, ◌+◌, ◌*◌, ◌≤◌, List, [], ◌∷◌, length, map, take, Vec, Result, IfOk, IfErr}
use Rattle.grid.specs.Prelude.{GridValue, row_count, col_count, Counts, saturating_count, ClonesAreEqual, order_after, price, half, image_rows, image_cols, Edit, delete_at, delete_range, expand, prepend, CommandValue, lines, ReplyValue, reply_value, step_rows, list_symmetry, run_rows, run_replies, AreKnown, AreDue, MayStop}
use Rattle.grid_base.specs.declared.words.Symmetry.{Symmetry}
use Rattle.grid_base.specs.declared.words.Symmetry.TheVariants.{Identity}
use Rattle.grid_base.specs.declared.order.Order.{Order}
use Rattle.grid_commands.specs.declared.command.Reply.{Reply}
use Rattle.grid_commands.specs.declared.command.RunStopped.{RunStopped}
use Rattle.grid_deferred.specs.Carry.{shift_through}
use Rattle.grid_deferred.specs.Deferred.{pending_after}

module _ {T : Type 0} where
  -- the price of a symmetry that led to this table: at the size before, exchanged where it
  -- transposes
  abbrev pub settling_price : Symmetry → List (List T) → ℕ
  settling_price s t = price s (image_rows s (row_count t) (col_count t))
      (image_cols s (row_count t) (col_count t))

  -- the shift of a command at the shown table t, through the symmetry that is pending
  abbrev pub shown_shift : Symmetry → CommandValue T → Order → List (List T) → ℕ
  shown_shift s x o t = shift_through s x o (image_rows s (row_count t) (col_count t))
      (image_cols s (row_count t) (col_count t))

  -- the shifts of a list of commands, each through the symmetry of those before it, on a base in
  -- one order
  abbrev pub deferred_shift : T → Order → List (CommandValue T) → Symmetry → List (List T) → ℕ
  deferred_shift d o [] s t = 0
  deferred_shift d o (x ∷ xs) s t = shown_shift s x o t
      + deferred_shift d o xs (pending_after x s) (step_rows d x t)

  -- all cells of a table, for an edit that may move each of them
  abbrev pub edit_allowance : Edit T → ℕ → ℕ
  edit_allowance (expand k) cells = cells
  edit_allowance (prepend k) cells = cells
  edit_allowance (delete_at i) cells = cells
  edit_allowance (delete_range i k) cells = cells
  -- every edit but padding and a delete
  edit_allowance e cells = 0

  abbrev pub step_allowance : CommandValue T → ℕ → ℕ
  step_allowance (lines a e) cells = edit_allowance e cells
  -- every command that is no edit of lines
  step_allowance x cells = 0

  -- the shift allowance of a list of commands: for each that may shift, the cells that were before
  -- it
  abbrev pub run_allowance : T → List (CommandValue T) → List (List T) → ℕ
  run_allowance d [] t = 0
  run_allowance d (x ∷ xs) t = step_allowance x (row_count t * col_count t)
      + run_allowance d xs (step_rows d x t)

  -- the rows and the shifts that a deferred run of these commands leaves, where d is the cells'
  -- default
  pub record LeftByDeferred (d : T) (commands : List (CommandValue T)) (old new : GridValue T)
      (before after : ℕ) : Type 0 where
    pub rows : new.rows ≡ run_rows d commands old.rows
    pub shift : after ≡ saturating_count before
        (deferred_shift d old.order commands Identity old.rows)
    pub allowance : after ≤ before + run_allowance d commands old.rows

  -- what a deferred run of these commands makes of a grid and a tally, and what it replies: a reply
  -- a command, and where the rows are known, what is due: at a command whose reply is known, and at
  -- all of them where clones equal their source
  pub record RanDeferred (is_clone : T → T → Type 0) (is_default : T → Type 0)
      (commands : List (CommandValue T)) (old new : GridValue T) (before after : Counts)
      (answers : List (ReplyValue T)) : Type 0 where
    pub count : length answers ≡ length commands
    pub order : new.order ≡ order_after (list_symmetry commands) old.order
    pub symmetry : after.symmetry ≡ saturating_count before.symmetry
        (settling_price (list_symmetry commands) new.rows)
    pub half : after.symmetry ≤ before.symmetry + half (row_count new.rows) (col_count new.rows)
    pub left : (d : T) → AreKnown is_default is_clone d commands
        → LeftByDeferred d commands old new before.shift after.shift
    pub due : (d : T) → AreKnown is_default is_clone d commands
        → AreDue is_clone d commands old.rows answers
    pub replies : (d : T) → AreKnown is_default is_clone d commands
        → ClonesAreEqual is_clone → answers ≡ run_replies d commands old.rows

module _ {T A : Type 0} where
  -- what a deferred run of these commands makes of a grid and a tally, and what it returns, as
  -- `RunGives` has it
  pub record DeferredRunGives (is_clone : T → T → Type 0) (is_default : T → Type 0)
      (commands : List (CommandValue T)) (old new : GridValue T) (before after : Counts)
      (result : Result (Vec (Reply T A) A) (RunStopped T A)) : Type 0 where
    pub ran : IfOk result (λ replies. RanDeferred is_clone is_default
        commands old new before after (map reply_value replies.items))
    pub stopped : IfErr result (λ stop. RanDeferred is_clone is_default
        (take stop.done commands) old new before after (map reply_value stop.replies.items))
    pub stop : IfErr result (λ stop. MayStop commands stop.done new.rows)
