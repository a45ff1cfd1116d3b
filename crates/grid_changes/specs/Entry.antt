-- Which commands a history keeps as a step, which may want memory, and which it replies to with
-- clones.
use Rattle.std.specs.Prelude.{ℕ, ◌+◌, ⊤, Bool, true, false, not, ◌&&◌, ◌||◌, List, nat_lt, is_none}
use Rattle.grid.specs.Prelude.{row_count, col_count, ClonesAreEqual, Edit, read, insert_all, pop, remove_at, delete_at, delete_range, expand, prepend, CommandValue, size, get, lines, line_count, command_refusal, has_lines}
use Rattle.grid.specs.Step.{memory_at}

module _ {T : Type 0} where
  -- whether an edit of `count` lines that isn't refused puts lines in or takes lines out
  abbrev pub moves_lines : ℕ → Edit T → Bool
  moves_lines count (read i) = false
  moves_lines count (insert_all i ls) = has_lines ls
  moves_lines count pop = nat_lt 0 count
  moves_lines count (remove_at i) = nat_lt i count
  moves_lines count (delete_at i) = nat_lt i count
  moves_lines count (delete_range i k) = nat_lt 0 k && not (nat_lt count (i + k))
  moves_lines count (expand k) = nat_lt 0 count && nat_lt 0 k
  moves_lines count (prepend k) = nat_lt 0 count && nat_lt 0 k
  -- a push and an insert
  moves_lines count e = true

  -- whether a command that isn't refused is a step at a table of m rows and n columns
  abbrev pub changes_board : CommandValue T → ℕ → ℕ → Bool
  changes_board size m n = false
  changes_board (get r c) m n = false
  changes_board (lines a e) m n = moves_lines (line_count a m n) e
  -- a set, a swap, a fill, a clear and an apply
  changes_board x m n = true

  -- whether a command is a step at a table
  abbrev pub is_step : CommandValue T → List (List T) → Bool
  is_step x t = is_none (command_refusal x (row_count t) (col_count t))
      && changes_board x (row_count t) (col_count t)

  -- what the reply of a history to an edit of lines rests on: it clones the cells of a line that it
  -- replies, also of one that it takes out
  abbrev pub EditAnswerIsKnown : (T → T → Type 0) → Edit T → Type 0
  EditAnswerIsKnown is_clone (read i) = ClonesAreEqual is_clone
  EditAnswerIsKnown is_clone pop = ClonesAreEqual is_clone
  EditAnswerIsKnown is_clone (remove_at i) = ClonesAreEqual is_clone
  -- every edit but a read, a pop and a remove
  EditAnswerIsKnown is_clone e = ⊤

  -- what the reply of a history to a command rests on
  abbrev pub AnswerIsKnown : (T → T → Type 0) → CommandValue T → Type 0
  AnswerIsKnown is_clone (get r c) = ClonesAreEqual is_clone
  AnswerIsKnown is_clone (lines a e) = EditAnswerIsKnown is_clone e
  -- every command but a get and an edit of lines
  AnswerIsKnown is_clone x = ⊤

  -- whether a history may want memory for a command: for a step and for what is kept of it, or for
  -- the reply to a read
  abbrev pub wants_memory : CommandValue T → List (List T) → Bool
  wants_memory x t = is_step x t || memory_at x t
