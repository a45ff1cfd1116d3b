-- What a command does to a table and replies: the plain step. And when it takes memory.
use Rattle.std.specs.Prelude.{ℕ, ◌+◌, ◌-◌, ⊤, Bool, true, false, not, ◌&&◌, Option, List, [], ◌∷◌, slice_get, nat_lt, if◌then◌else◌, is_none}
use Rattle.grid_base.specs.Prelude.{row_count, col_count, cell, transposed, with_cell, exchanged, act, ClonesAreEqual}
use Rattle.grid_commands.specs.declared.command.Axis.{Axis}
use Rattle.grid_commands.specs.declared.command.Axis.TheVariants.{Row, Col}
use Rattle.grid_commands.specs.Command.{Edit, read, push, insert_at, insert_all, pop, remove_at, delete_at, delete_range, expand, prepend, CommandValue, size, get, set_cell, swap_cells, lines, fill, clear, apply, line_count, line_width}
use Rattle.grid_commands.specs.Reply.{ReplyValue, done, size_is, cell_is, line_is, flag_is, refused}
use Rattle.grid_commands.specs.Refusal.{in_range, unless_refused, pad_refusal, edit_refusal, command_refusal}
use Rattle.grid.specs.Make.{IsOnlyDefault}
use Rattle.grid.specs.AllCells.{filled}
use Rattle.grid.specs.Edits.{insert_rows, insert_cols, without_rows, without_cols, expanded_rows, expanded_cols, prepended_rows, prepended_cols}

-- what an edit that isn't refused comes to
pub data Effect (T : Type 0) : Type 0 where
  nothing : Effect T
  inserts : ℕ → List (List T) → Effect T
  removes : ℕ → ℕ → Effect T
  pads_end : ℕ → Effect T
  pads_front : ℕ → Effect T

module _ {T : Type 0} where
  -- lines from i on, k of them, go where they are there
  abbrev pub range_effect : ℕ → ℕ → ℕ → Effect T
  range_effect count i k = if nat_lt count (i + k) then nothing else removes i k

  -- of `count` lines
  abbrev pub effect : ℕ → Edit T → Effect T
  effect count (read i) = nothing
  effect count (push line) = inserts count (line ∷ [])
  effect count (insert_at i line) = inserts i (line ∷ [])
  effect count (insert_all i ls) = inserts i ls
  effect count pop = range_effect count (count - 1) 1
  effect count (remove_at i) = range_effect count i 1
  effect count (delete_at i) = range_effect count i 1
  effect count (delete_range i k) = range_effect count i k
  effect count (expand k) = pads_end k
  effect count (prepend k) = pads_front k

  -- the table after an effect on lines of an axis; d is the cells' default
  abbrev pub after_effect : T → Axis → Effect T → List (List T) → List (List T)
  after_effect d a nothing t = t
  after_effect d Row (inserts i ls) t = insert_rows i ls t
  after_effect d Row (removes i k) t = without_rows i k t
  after_effect d Row (pads_end k) t = expanded_rows k d t
  after_effect d Row (pads_front k) t = prepended_rows k d t
  after_effect d Col (inserts i ls) t = insert_cols i ls t
  after_effect d Col (removes i k) t = without_cols i k t
  after_effect d Col (pads_end k) t = expanded_cols k d t
  after_effect d Col (pads_front k) t = prepended_cols k d t

  abbrev pub line_at : Axis → ℕ → List (List T) → Option (List T)
  line_at Row i t = slice_get t i
  line_at Col i t = slice_get (transposed t) i

  -- the reply to an edit that isn't refused
  abbrev pub edit_reply : Axis → Edit T → ℕ → List (List T) → ReplyValue T
  edit_reply a (read i) count t = line_is (line_at a i t)
  edit_reply a pop count t = line_is (line_at a (count - 1) t)
  edit_reply a (remove_at i) count t = line_is (line_at a i t)
  edit_reply a (delete_at i) count t = flag_is (nat_lt i count)
  edit_reply a (delete_range i k) count t = flag_is (not (nat_lt count (i + k)))
  -- a push, an insert and padding
  edit_reply a e count t = done

  -- the table after a command that isn't refused
  abbrev pub rows_after : T → CommandValue T → List (List T) → List (List T)
  rows_after d size t = t
  rows_after d (get r c) t = t
  rows_after d (set_cell r c v) t = with_cell t r c v
  rows_after d (swap_cells p q) t = exchanged t p q
  rows_after d (lines a e) t = after_effect d a
      (effect (line_count a (row_count t) (col_count t)) e) t
  rows_after d (fill v) t = filled v t
  rows_after d clear t = []
  rows_after d (apply s) t = act s t

  -- the reply to a command that isn't refused
  abbrev pub reply_to : CommandValue T → List (List T) → ReplyValue T
  reply_to size t = size_is (row_count t) (col_count t)
  reply_to (get r c) t = cell_is (cell t r c)
  reply_to (lines a e) t = edit_reply a e (line_count a (row_count t) (col_count t)) t
  -- a set, a swap, a fill, a clear and an apply
  reply_to x t = done

  -- the plain step: the table after a command, where d is the cells' default, and its reply
  unfoldable pub step_rows : T → CommandValue T → List (List T) → List (List T)
  step_rows d x t = unless_refused (command_refusal x (row_count t) (col_count t)) (λ r. t)
      (rows_after d x t)

  unfoldable pub step_reply : CommandValue T → List (List T) → ReplyValue T
  step_reply x t = unless_refused (command_refusal x (row_count t) (col_count t)) (λ r. refused r)
      (reply_to x t)

  abbrev pub has_lines : List (List T) → Bool
  has_lines [] = false
  has_lines (l ∷ ls) = true

  -- whether an edit of `count` lines of this width takes memory
  abbrev pub edit_takes_memory : ℕ → ℕ → Edit T → Bool
  edit_takes_memory count width (read i) = nat_lt i count
  edit_takes_memory count width (push line) = is_none (edit_refusal count width (push line))
  edit_takes_memory count width (insert_at i line) = is_none
      (edit_refusal count width (insert_at i line))
  edit_takes_memory count width (insert_all i ls) = has_lines ls
      && is_none (edit_refusal count width (insert_all i ls))
  edit_takes_memory count width pop = nat_lt 0 count
  edit_takes_memory count width (remove_at i) = nat_lt i count
  edit_takes_memory count width (delete_at i) = false
  edit_takes_memory count width (delete_range i k) = false
  edit_takes_memory count width (expand k) = nat_lt 0 count
      && (nat_lt 0 k && is_none (pad_refusal count width k))
  edit_takes_memory count width (prepend k) = nat_lt 0 count
      && (nat_lt 0 k && is_none (pad_refusal count width k))

  -- whether a command takes memory at a table of m rows and n columns
  abbrev pub takes_memory : CommandValue T → ℕ → ℕ → Bool
  takes_memory (get r c) m n = in_range m n (r, c)
  takes_memory (lines a e) m n = edit_takes_memory (line_count a m n) (line_width a m n) e
  takes_memory (fill v) m n = nat_lt 0 m
  -- a size, a set, a swap, a clear and an apply
  takes_memory x m n = false

  -- whether it does at a table
  abbrev pub memory_at : CommandValue T → List (List T) → Bool
  memory_at x t = takes_memory x (row_count t) (col_count t)

  -- what the rows after an edit of lines rest on: those after padding, that d is the one default
  abbrev pub EditIsKnown : (T → Type 0) → T → Edit T → Type 0
  EditIsKnown is_default d (expand k) = IsOnlyDefault is_default d
  EditIsKnown is_default d (prepend k) = IsOnlyDefault is_default d
  -- every edit but padding
  EditIsKnown is_default d e = ⊤

  -- what the rows after a command rest on: besides, those after a fill, that clones equal their
  -- source
  abbrev pub RowsAreKnown : (T → Type 0) → (T → T → Type 0) → T → CommandValue T → Type 0
  RowsAreKnown is_default is_clone d (lines a e) = EditIsKnown is_default d e
  RowsAreKnown is_default is_clone d (fill v) = ClonesAreEqual is_clone
  -- every command but an edit of lines and a fill
  RowsAreKnown is_default is_clone d x = ⊤

  -- what the reply to an edit of lines rests on: a read clones the cells of its line
  abbrev pub EditReplyIsKnown : (T → T → Type 0) → Edit T → Type 0
  EditReplyIsKnown is_clone (read i) = ClonesAreEqual is_clone
  -- every edit but a read
  EditReplyIsKnown is_clone e = ⊤

  -- what the reply to a command rests on: that of a cell or of a line that stays, that clones equal
  -- their source
  abbrev pub ReplyIsKnown : (T → T → Type 0) → CommandValue T → Type 0
  ReplyIsKnown is_clone (get r c) = ClonesAreEqual is_clone
  ReplyIsKnown is_clone (lines a e) = EditReplyIsKnown is_clone e
  -- every command but a get and an edit of lines
  ReplyIsKnown is_clone x = ⊤
