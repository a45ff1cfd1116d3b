-- Words of moves, and what they do to tables.
use Rattle.std.specs.Prelude.{◌≡◌, ℕ, List, map}
use Rattle.grid_base.specs.declared.words.Move.{Move}
use Rattle.grid_base.specs.declared.words.Symmetry.{Symmetry}
use Rattle.grid_base.specs.declared.words.Symmetry.TheVariants.{FlipCols, FlipRows, RotateHalf, Transpose, RotateLeft, RotateRight}
use Rattle.grid_base.specs.Table.{IsTable}
use Rattle.grid_base.specs.Symmetry.{act, act_all, test_table}
use Rattle.grid_base.specs.declared.words.Move.TheVariants as moves

-- the symmetry of a move
abbrev pub of_move : Move → Symmetry
of_move moves.Transpose = Transpose
of_move moves.FlipCols = FlipCols
of_move moves.FlipRows = FlipRows
of_move moves.RotateLeft = RotateLeft
of_move moves.RotateRight = RotateRight
of_move moves.RotateHalf = RotateHalf

-- what the moves of a word make of a table, from left to right
abbrev pub word_image : {T : Type 0} → List Move → List (List T) → List (List T)
word_image w t = act_all (map of_move w) t

-- s is the normal form of a word: it acts on the test table as the word does
abbrev pub IsNormalForm : List Move → Symmetry → Type 0
IsNormalForm w s = word_image w test_table ≡ act s test_table

-- u is the image of t under every word of moves whose normal form is s
abbrev pub IsImageByWords : {T : Type 0} → Symmetry → List (List T) → List (List T) → Type 0
IsImageByWords s t u = (w : List Move) → IsNormalForm w s → u ≡ word_image w t

-- two words give the same image of every table of integers
pub record ActAlike (w v : List Move) : Type 0 where
  pub same : (t : List (List ℕ)) → IsTable t → word_image w t ≡ word_image v t
