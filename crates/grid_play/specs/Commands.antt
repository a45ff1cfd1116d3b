-- The commands of a script: a name, and what the words after it say.
use Rattle.std.specs.Prelude.{ℕ, ◌/◌, ◌%◌, ◌==◌, ◌||◌, ◌&&◌, not, zero, suc, ℤ, Bool, if◌then◌else◌, Option, None, Some, List, [], ◌∷◌, ◌++◌, length, take, drop, codes, bytes_eq, option_and_then, option_map}
use Rattle.grid_base.specs.declared.words.Symmetry.TheVariants.{Identity, FlipCols, FlipRows, RotateHalf, Transpose, RotateLeft, RotateRight, AntiTranspose}
use Rattle.grid_commands.specs.declared.command.Axis.TheVariants.{Row, Col}
use Rattle.grid_commands.specs.Command.{read, push, insert_at, insert_all, pop, remove_at, delete_at, delete_range, expand, prepend, CommandValue, size, get, set_cell, swap_cells, lines, fill, clear, apply}
use Rattle.text_lines.specs.Numbers.{index_of, cell_of}

-- a step that may fail, and the next, which has its value
infixl 10 ◌>>=◌
abbrev pub ◌>>=◌ : {A B : Type 0} → Option A → (A → Option B) → Option B
step >>= next = option_and_then next step

-- the cells that words write, if each writes one
abbrev pub cells_of : List (List ℕ) → Option (List ℤ)
cells_of [] = Some []
cells_of (word ∷ words) = do
  cell ← cell_of word
  cells ← cells_of words
  Some (cell ∷ cells)

-- this number of lines of this length, from the first cell on
abbrev pub cut : ℕ → ℕ → List ℤ → List (List ℤ)
cut zero len cells = []
cut (suc n) len cells = take len cells ∷ cut n len (drop len cells)

-- whether `count` cells can be cut into lines of this length: there are none, or the length divides
-- their number
abbrev pub can_be_cut : ℕ → ℕ → Bool
can_be_cut count len = count == 0 || (not (len == 0) && count % len == 0)

abbrev pub lines_of_length : ℕ → List ℤ → Option (List (List ℤ))
lines_of_length len cells = if can_be_cut (length cells) len
    then Some (cut (length cells / len) len cells) else None

-- what the words after a name say, and the command that comes of it
pub data Form : Type 0 where
  alone : CommandValue ℤ → Form
  with_cell : (ℤ → CommandValue ℤ) → Form
  with_index : (ℕ → CommandValue ℤ) → Form
  with_two : (ℕ → ℕ → CommandValue ℤ) → Form
  with_two_and_cell : (ℕ → ℕ → ℤ → CommandValue ℤ) → Form
  with_two_pairs : (ℕ × ℕ → ℕ × ℕ → CommandValue ℤ) → Form
  with_line : (List ℤ → CommandValue ℤ) → Form
  with_index_and_line : (ℕ → List ℤ → CommandValue ℤ) → Form
  with_index_and_lines : (ℕ → List (List ℤ) → CommandValue ℤ) → Form

-- the names that lines of cells follow
unfoldable pub line_forms : List (List ℕ × Form)
line_forms =
    (codes "push_row", with_line (λ cells. lines Row (push cells)))
    ∷ (codes "push_col", with_line (λ cells. lines Col (push cells)))
    ∷ (codes "insert_row", with_index_and_line (λ i cells. lines Row (insert_at i cells)))
    ∷ (codes "insert_col", with_index_and_line (λ i cells. lines Col (insert_at i cells)))
    ∷ (codes "insert_rows", with_index_and_lines (λ i ls. lines Row (insert_all i ls)))
    ∷ (codes "insert_cols", with_index_and_lines (λ i ls. lines Col (insert_all i ls)))
    ∷ []

-- the names of commands on cells
unfoldable pub cell_forms : List (List ℕ × Form)
cell_forms =
    (codes "get", with_two get)
    ∷ (codes "set", with_two_and_cell set_cell)
    ∷ (codes "swap", with_two_pairs swap_cells)
    ∷ (codes "fill", with_cell fill)
    ∷ []

-- the names that the index of a line follows
unfoldable pub index_forms : List (List ℕ × Form)
index_forms =
    (codes "row", with_index (λ i. lines Row (read i)))
    ∷ (codes "col", with_index (λ i. lines Col (read i)))
    ∷ (codes "remove_row", with_index (λ i. lines Row (remove_at i)))
    ∷ (codes "remove_col", with_index (λ i. lines Col (remove_at i)))
    ∷ (codes "delete_row", with_index (λ i. lines Row (delete_at i)))
    ∷ (codes "delete_col", with_index (λ i. lines Col (delete_at i)))
    ∷ (codes "delete_rows", with_two (λ i n. lines Row (delete_range i n)))
    ∷ (codes "delete_cols", with_two (λ i n. lines Col (delete_range i n)))
    ∷ []

-- the names that a number of lines follows
unfoldable pub count_forms : List (List ℕ × Form)
count_forms =
    (codes "expand_rows", with_index (λ n. lines Row (expand n)))
    ∷ (codes "expand_cols", with_index (λ n. lines Col (expand n)))
    ∷ (codes "prepend_rows", with_index (λ n. lines Row (prepend n)))
    ∷ (codes "prepend_cols", with_index (λ n. lines Col (prepend n)))
    ∷ []

-- the names that stand alone
unfoldable pub bare_forms : List (List ℕ × Form)
bare_forms =
    (codes "size", alone size)
    ∷ (codes "pop_row", alone (lines Row pop))
    ∷ (codes "pop_col", alone (lines Col pop))
    ∷ (codes "clear", alone clear)
    ∷ (codes "identity", alone (apply Identity))
    ∷ (codes "flip_cols", alone (apply FlipCols))
    ∷ (codes "flip_rows", alone (apply FlipRows))
    ∷ (codes "rotate_half", alone (apply RotateHalf))
    ∷ (codes "transpose", alone (apply Transpose))
    ∷ (codes "rotate_left", alone (apply RotateLeft))
    ∷ (codes "rotate_right", alone (apply RotateRight))
    ∷ (codes "anti_transpose", alone (apply AntiTranspose))
    ∷ []

-- the names, as docs/SCRIPTS.md has them
abbrev pub forms : List (List ℕ × Form)
forms = line_forms ++ (cell_forms ++ (index_forms ++ (count_forms ++ bare_forms)))

-- the form of the first entry of this name
abbrev pub form_among : List (List ℕ × Form) → List ℕ → Option Form
form_among [] name = None
form_among (entry ∷ entries) name = if bytes_eq name entry.0 then Some entry.1
    else form_among entries name

-- the words after a name, by form: each stands for one number, and there are no more
abbrev pub with_no_word : List (List ℕ) → CommandValue ℤ → Option (CommandValue ℤ)
with_no_word [] command = Some command
with_no_word (word ∷ words) command = None

abbrev pub one_cell : List (List ℕ) → Option ℤ
one_cell (v ∷ []) = cell_of v
one_cell _ = None

abbrev pub one_index : List (List ℕ) → Option ℕ
one_index (i ∷ []) = index_of i
one_index _ = None

unfoldable pub two_indices : List (List ℕ) → Option (ℕ × ℕ)
two_indices (i ∷ j ∷ []) = do
  i ← index_of i
  j ← index_of j
  Some (i, j)
two_indices _ = None

unfoldable pub position_and_cell : List (List ℕ) → Option (ℕ × ℕ × ℤ)
position_and_cell (r ∷ c ∷ v ∷ []) = do
  r ← index_of r
  c ← index_of c
  v ← cell_of v
  Some (r, c, v)
position_and_cell _ = None

unfoldable pub two_positions : List (List ℕ) → Option ((ℕ × ℕ) × (ℕ × ℕ))
two_positions (r ∷ c ∷ s ∷ d ∷ []) = do
  r ← index_of r
  c ← index_of c
  s ← index_of s
  d ← index_of d
  Some ((r, c), (s, d))
two_positions _ = None

-- an index, and the cells of a line
unfoldable pub index_and_line : List (List ℕ) → Option (ℕ × List ℤ)
index_and_line [] = None
index_and_line (i ∷ words) = do
  i ← index_of i
  cells ← cells_of words
  Some (i, cells)

-- an index, a length, and the cells of lines of this length, joined
unfoldable pub index_and_lines : List (List ℕ) → Option (ℕ × List (List ℤ))
index_and_lines (i ∷ l ∷ words) = do
  i ← index_of i
  len ← index_of l
  cells ← cells_of words
  ls ← lines_of_length len cells
  Some (i, ls)
index_and_lines _ = None

abbrev pub read_form : Form → List (List ℕ) → Option (CommandValue ℤ)
read_form (alone command) words = with_no_word words command
read_form (with_cell f) words = option_map f (one_cell words)
read_form (with_index f) words = option_map f (one_index words)
read_form (with_two f) words = option_map (λ p. f p.0 p.1) (two_indices words)
read_form (with_two_and_cell f) words = option_map (λ p. f p.0 p.1 p.2) (position_and_cell words)
read_form (with_two_pairs f) words = option_map (λ p. f p.0 p.1) (two_positions words)
read_form (with_line f) words = option_map f (cells_of words)
read_form (with_index_and_line f) words = option_map (λ p. f p.0 p.1) (index_and_line words)
read_form (with_index_and_lines f) words = option_map (λ p. f p.0 p.1) (index_and_lines words)

-- the command of a name and the words after it, by these entries
abbrev pub command_among : List (List ℕ × Form) → List ℕ → List (List ℕ) → Option (CommandValue ℤ)
command_among entries name words = do
  form ← form_among entries name
  read_form form words

unfoldable pub command_of : List ℕ → List (List ℕ) → Option (CommandValue ℤ)
command_of name words = command_among forms name words
