-- Changes of a board, and which of them fit a board. No public clause cites this module.
use Rattle.std.specs.Prelude.{◌≡◌, ⊤, ℕ, ◌+◌, ◌<◌, ◌≤◌, List, Bool, true, false}
use Rattle.grid.specs.Prelude.{row_count, col_count, with_cell, exchanged, InRange, FitsRow, insert_rows, without_rows, act, order_after}
use Rattle.grid_base.specs.declared.words.Symmetry.TheVariants.{Transpose}
use Rattle.grid_commands.specs.declared.command.Axis.{Axis}
use Rattle.grid_commands.specs.declared.command.Axis.TheVariants.{Row, Col}
use Rattle.grid_changes.specs.declared.change.Change.{Change}
use Rattle.grid_changes.specs.declared.change.Change.TheVariants as a
use Rattle.grid_changes.specs.Timeline.{Board, board_of}

module _ {T : Type 0} where
  -- the table whose rows are the lines of an axis
  abbrev pub lines_of : Axis → List (List T) → List (List T)
  lines_of Row t = t
  lines_of Col t = act Transpose t

  -- the table with lines put before line i of an axis, and with k lines from i on taken out
  abbrev pub with_lines : Axis → ℕ → List (List T) → List (List T) → List (List T)
  with_lines x i ls t = lines_of x (insert_rows i ls (lines_of x t))

  abbrev pub less_lines : Axis → ℕ → ℕ → List (List T) → List (List T)
  less_lines x i k t = lines_of x (without_rows i k (lines_of x t))

  -- these lines, of which there are some, fit before line i of an axis
  pub record FitsLines (x : Axis) (i : ℕ) (ls t : List (List T)) : Type 0 where
    pub some : 0 < row_count ls
    pub point : i ≤ row_count (lines_of x t)
    pub width : FitsRow (lines_of x t) (col_count ls)

  -- there are k lines of an axis from i on, and k isn't 0
  pub record HasLines (x : Axis) (i k : ℕ) (t : List (List T)) : Type 0 where
    pub some : 0 < k
    pub within : i + k ≤ row_count (lines_of x t)

module _ {T A : Type 0} where
  -- a change can be made of a board
  abbrev pub Fits : Change T A → Board T → Type 0
  Fits (a.Write r c v) b = InRange b.rows r c
  Fits (a.Exchange p q) b = InRange b.rows p.0 p.1 × InRange b.rows q.0 q.1
  Fits (a.Put x i ls) b = FitsLines x i ls.rows b.rows
  Fits (a.Take x i k) b = HasLines x i k b.rows
  Fits (a.Turn s) b = ⊤
  Fits (a.Replace g) b = ⊤

  -- the board after a change
  abbrev pub after : Change T A → Board T → Board T
  after (a.Write r c v) b = record b { rows = with_cell b.rows r c v }
  after (a.Exchange p q) b = record b { rows = exchanged b.rows p q }
  after (a.Put x i ls) b = record b { rows = with_lines x i ls.rows b.rows }
  after (a.Take x i k) b = record b { rows = less_lines x i k b.rows }
  after (a.Turn s) b = record { rows = act s b.rows; order = order_after s b.order }
  after (a.Replace g) b = board_of g

  -- whether a change puts lines in or takes lines out
  abbrev pub is_of_lines : Change T A → Bool
  is_of_lines (a.Put x i ls) = true
  is_of_lines (a.Take x i k) = true
  -- every other change
  is_of_lines x = false

  -- a change leads from one board to the other
  pub record Inverts (x : Change T A) (from to : Board T) : Type 0 where
    pub fits : Fits x from
    pub leads : after x from ≡ to
