-- Commands through the flip of the rows and the transpose, and through words of these.
use Rattle.std.proofs.Common.{◌≡◌, ℕ, zero, suc, ◌<◌, ◌≤◌, Bool, true, false, ◌&&◌, Option, Some, None, List, nat_lt, if◌then◌else◌, refl, sym, ◌∙◌, ap, arith, ⊎_elim, ltb-true, lt-ltb, le-ltb}
use Rattle.grid_deferred.proofs.Common.{and_comm, cases_lt, and_parts, row_count, col_count, IsTable, IsSize, act, rows_after, reply_to, step_rows, step_reply, takes_memory, CommandValue, size, get, set_cell, swap_cells, lines, fill, clear, apply, axis_of, ReplyValue, cell_is, refused, in_range, command_refusal, unless_refused, IsTable-with_cell, IsSize-table, turned_reply, mirrored_line, transposed_command, flipped_command, rows-act, cols-act, IsTable-act, across-none, rows-across, cols-across, cell-cross, rows-edit_across, table-cols_edit, unless_refused-table}
use Rattle.grid_base.specs.declared.words.Symmetry.{Symmetry}
use Rattle.grid_base.specs.declared.words.Symmetry.TheVariants.{FlipRows, Transpose}
use Rattle.grid_commands.specs.declared.command.Axis.{Axis}
use Rattle.grid_commands.specs.declared.command.Axis.TheVariants.{Row, Col}
use Rattle.grid_commands.specs.declared.command.Refusal.{Refusal}
use Rattle.grid_commands.specs.declared.command.Refusal.TheVariants.{Index}
use Rattle.grid_deferred.proofs.RefusalLemmas.{command_refusal-edit_of_flipped, command_refusal-edit_of_reversed}
use Rattle.grid_deferred.proofs.EditThroughLemmas.{place_past, memory-edit_of_flipped, memory-edit_of_reversed, rows-edit_flipped, cols-edit_flipped, cols-edit_across, table-rows_edit, reply-rows_flip, reply-cols_flip, reply-rows_cross, reply-cols_cross}
use Rattle.grid_deferred.proofs.CellThroughLemmas.{cell-flip, set-flip, set-cross, swap-flip, swap-cross, fill-flip, fill-cross, none-flip, apply-through, IsTable-exchanged, IsTable-filled}

module _ {T : Type 0} where
  -- an axis that a command may be said to be of: any where it speaks of no lines
  abbrev pub IsAxis : CommandValue T → Axis → Type 0
  IsAxis (lines b e) a = a ≡ b
  IsAxis size a = Unit
  IsAxis y a = Unit

  pub IsAxis-axis_of : (y : CommandValue T) → IsAxis y (axis_of y)
  IsAxis-axis_of (lines b e) = refl
  IsAxis-axis_of size = tt
  IsAxis-axis_of y = tt

  pub record Through (s : Symmetry) (x y : CommandValue T) (t : List (List T)) : Type 0 where
    pub rows : (d : T) → step_rows d y (act s t) ≡ act s (step_rows d x t)
    pub reply : (a : Axis) → IsAxis y a → step_reply y (act s t) ≡ turned_reply s a (step_reply x t)
    pub memory : takes_memory y (row_count (act s t)) (col_count (act s t)) ≡ takes_memory x (row_count t) (col_count t)

  rows-by : (s : Symmetry) (t after_x after_y : List (List T)) (p q : Option Refusal) → q ≡ p → (p ≡ None → after_y ≡ act s after_x) → unless_refused q (λ r. act s t) after_y ≡ act s (unless_refused p (λ r. t) after_x)
  rows-by s t after_x after_y None q e f = rw e (f refl)
  rows-by s t after_x after_y (Some r) q e f = rw e refl

  reply-by : (s : Symmetry) (a : Axis) (x y : ReplyValue T) (p q : Option Refusal) → q ≡ p → (p ≡ None → y ≡ turned_reply s a x) → unless_refused q (λ r. refused r) y ≡ turned_reply s a (unless_refused p (λ r. refused r) x)
  reply-by s a x y None q e f = rw e (f refl)
  reply-by s a x y (Some r) q e f = rw e refl

  -- a step by what it does where it isn't refused
  through_by : (s : Symmetry) (x y : CommandValue T) (t : List (List T)) → command_refusal y (row_count (act s t)) (col_count (act s t)) ≡ command_refusal x (row_count t) (col_count t) → ((d : T) → command_refusal x (row_count t) (col_count t) ≡ None → rows_after d y (act s t) ≡ act s (rows_after d x t)) → ((a : Axis) → IsAxis y a → reply_to y (act s t) ≡ turned_reply s a (reply_to x t)) → takes_memory y (row_count (act s t)) (col_count (act s t)) ≡ takes_memory x (row_count t) (col_count t) → Through s x y t
  unfolding step_rows step_reply
  through_by s x y t same do_same answer memory =
      record {
        rows = λ d. rows-by s t (rows_after d x t) (rows_after d y (act s t)) (command_refusal x (row_count t) (col_count t)) _ same (do_same d);
        reply = λ a h. reply-by s a (reply_to x t) (reply_to y (act s t)) (command_refusal x (row_count t) (col_count t)) _ same (λ _. answer a h);
        memory = memory;
      }

in_range-parts : (m n : ℕ) (p : ℕ × ℕ) → in_range m n p ≡ true → (p.0 < m) × (p.1 < n)
in_range-parts m n p e = let b = and_parts (nat_lt p.0 m) (nat_lt p.1 n) e in (ltb-true p.0 m b.0, ltb-true p.1 n b.1)

in_range-flip : (m n : ℕ) (p : ℕ × ℕ) → in_range m n p ≡ in_range m n (mirrored_line m p.0, p.1)
in_range-flip m n p = ap (λ b. b && nat_lt p.1 n) (sym (place_past m p.0))

in_range-cross : (m n : ℕ) (p : ℕ × ℕ) → in_range n m p ≡ in_range m n (p.1, p.0)
in_range-cross m n p = and_comm (nat_lt p.0 n) (nat_lt p.1 m)

index-none : (b : Bool) → ◌≡◌ {A = Option Refusal} (if b then None else Some Index) None → b ≡ true
index-none true e = refl
index-none false e = cc e

module _ {T : Type 0} where
  -- the size of the images
  at_flip : (t : List (List T)) → IsTable t → (F : ℕ → ℕ → Type 0) → F (row_count t) (col_count t) → F (row_count (act FlipRows t)) (col_count (act FlipRows t))
  at_flip t h F p = rw (rows-act FlipRows t, cols-act FlipRows t h) p

  at_cross : (t : List (List T)) → IsTable t → (F : ℕ → ℕ → Type 0) → F (col_count t) (row_count t) → F (row_count (act Transpose t)) (col_count (act Transpose t))
  at_cross t h F p = rw (rows-across t h, cols-across t h) p

  command_refusal-flipped : (m n : ℕ) (y : CommandValue T) → command_refusal y m n ≡ command_refusal (flipped_command m y) m n
  command_refusal-flipped m n (set_cell r c v) = ap (λ b. if b then None else Some Index) (in_range-flip m n (r, c))
  command_refusal-flipped m n (swap_cells p q) =
      ap (λ b. if b && in_range m n q then None else Some Index) (in_range-flip m n p)
      ∙ ap (λ b. if in_range m n (mirrored_line m p.0, p.1) && b then None else Some Index) (in_range-flip m n q)
  command_refusal-flipped m n (lines Row e) = sym (command_refusal-edit_of_flipped m n e)
  command_refusal-flipped m n (lines Col e) = sym (command_refusal-edit_of_reversed n m e)
  command_refusal-flipped m n size = refl
  command_refusal-flipped m n y = refl

  memory-flipped : (m n : ℕ) (y : CommandValue T) → takes_memory y m n ≡ takes_memory (flipped_command m y) m n
  memory-flipped m n (get r c) = in_range-flip m n (r, c)
  memory-flipped m n (lines Row e) = sym (memory-edit_of_flipped m n e)
  memory-flipped m n (lines Col e) = sym (memory-edit_of_reversed n m e)
  memory-flipped m n size = refl
  memory-flipped m n y = refl

  command_refusal-transposed : (m n : ℕ) (y : CommandValue T) → command_refusal y n m ≡ command_refusal (transposed_command y) m n
  command_refusal-transposed m n (set_cell r c v) = ap (λ b. if b then None else Some Index) (in_range-cross m n (r, c))
  command_refusal-transposed m n (swap_cells p q) =
      ap (λ b. if b && in_range n m q then None else Some Index) (in_range-cross m n p)
      ∙ ap (λ b. if in_range m n (p.1, p.0) && b then None else Some Index) (in_range-cross m n q)
  command_refusal-transposed m n (lines Row e) = refl
  command_refusal-transposed m n (lines Col e) = refl
  command_refusal-transposed m n size = refl
  command_refusal-transposed m n y = refl

  rows_after-flipped : (d : T) (y : CommandValue T) (t : List (List T)) → IsTable t → command_refusal y (row_count t) (col_count t) ≡ None → rows_after d y (act FlipRows t) ≡ act FlipRows (rows_after d (flipped_command (row_count t) y) t)
  rows_after-flipped d (set_cell r c v) t h none =
      let p = in_range-parts (row_count t) (col_count t) (r, c) (index-none _ none) in set-flip t h r c v p.0
  rows_after-flipped d (swap_cells p q) t h none =
      let b = and_parts _ _ (index-none _ none) in
      swap-flip t h p q (in_range-parts (row_count t) (col_count t) p b.0).0 (in_range-parts (row_count t) (col_count t) q b.1).0
  rows_after-flipped d (lines Row e) t h none = rw (rows-act FlipRows t) (rows-edit_flipped d e t h none)
  rows_after-flipped d (lines Col e) t h none = rw (cols-act FlipRows t h) (cols-edit_flipped d e t h none)
  rows_after-flipped d (fill v) t h none = fill-flip v t h
  rows_after-flipped d clear t h none = sym none-flip
  rows_after-flipped d (apply u) t h none = apply-through FlipRows u t h refl
  rows_after-flipped d y t h none = refl

  rows_after-transposed : (d : T) (y : CommandValue T) (t : List (List T)) → IsTable t → command_refusal y (col_count t) (row_count t) ≡ None → rows_after d y (act Transpose t) ≡ act Transpose (rows_after d (transposed_command y) t)
  rows_after-transposed d (set_cell r c v) t h none =
      let p = in_range-parts (col_count t) (row_count t) (r, c) (index-none _ none) in set-cross t h r c v p.0 p.1
  rows_after-transposed d (swap_cells p q) t h none =
      let b = and_parts _ _ (index-none _ none) in
      let x = in_range-parts (col_count t) (row_count t) p b.0 in
      let y = in_range-parts (col_count t) (row_count t) q b.1 in
      swap-cross t h p q x.0 x.1 y.0 y.1
  rows_after-transposed d (lines Row e) t h none = rw (rows-across t h) (rows-edit_across d e t h none)
  rows_after-transposed d (lines Col e) t h none = rw (cols-across t h) (cols-edit_across d e t h none)
  rows_after-transposed d (fill v) t h none = fill-cross v t h
  rows_after-transposed d clear t h none = sym across-none
  rows_after-transposed d (apply u) t h none = apply-through Transpose u t h refl
  rows_after-transposed d y t h none = refl

  reply_to-flipped : (y : CommandValue T) (t : List (List T)) → IsTable t → (a : Axis) → IsAxis y a → reply_to y (act FlipRows t) ≡ turned_reply FlipRows a (reply_to (flipped_command (row_count t) y) t)
  reply_to-flipped size t h a k = rw (rows-act FlipRows t, cols-act FlipRows t h) refl
  reply_to-flipped (get r c) t h a k = ap cell_is (cell-flip t h r c)
  reply_to-flipped (lines Row e) t h a k = rw (k, rows-act FlipRows t) (reply-rows_flip t h e)
  reply_to-flipped (lines Col e) t h a k = rw (k, cols-act FlipRows t h) (reply-cols_flip t h e)
  reply_to-flipped y t h a k = refl

  reply_to-transposed : (y : CommandValue T) (t : List (List T)) → IsTable t → (a : Axis) → IsAxis y a → reply_to y (act Transpose t) ≡ turned_reply Transpose a (reply_to (transposed_command y) t)
  reply_to-transposed size t h a k = rw (rows-across t h, cols-across t h) refl
  reply_to-transposed (get r c) t h a k = ap cell_is (cell-cross t h r c)
  reply_to-transposed (lines Row e) t h a k = rw (k, rows-across t h) (reply-rows_cross t h e)
  reply_to-transposed (lines Col e) t h a k = rw (k, cols-across t h) (reply-cols_cross t h e)
  reply_to-transposed y t h a k = refl

  memory-transposed : (m n : ℕ) (y : CommandValue T) → IsSize m n → takes_memory y n m ≡ takes_memory (transposed_command y) m n
  memory-transposed m n (get r c) h = in_range-cross m n (r, c)
  memory-transposed m n (lines Row e) h = refl
  memory-transposed m n (lines Col e) h = refl
  memory-transposed m n (fill v) h =
      ⊎_elim (λ some. rw (lt-ltb 0 n some, lt-ltb 0 m (h.has_rows some)) refl)
      (λ none. rw (le-ltb 0 n none) (sym (le-ltb 0 m (by m n h none))))
      (cases_lt 0 n)
    where
      by : (m n : ℕ) → IsSize m n → n ≤ 0 → m ≤ 0
      by zero n h none = omega arith
      by (suc m) n h none = omega (arith, none, h.has_cols (omega arith))
  memory-transposed m n size h = refl
  memory-transposed m n y h = refl

  pub through_flip : (y : CommandValue T) (t : List (List T)) → IsTable t → Through FlipRows (flipped_command (row_count t) y) y t
  through_flip y t h =
      through_by FlipRows (flipped_command (row_count t) y) y t
      (at_flip t h (λ m n. command_refusal y m n ≡ command_refusal (flipped_command (row_count t) y) (row_count t) (col_count t)) (command_refusal-flipped (row_count t) (col_count t) y))
      (λ d none. rows_after-flipped d y t h (command_refusal-flipped (row_count t) (col_count t) y ∙ none))
      (reply_to-flipped y t h)
      (at_flip t h (λ m n. takes_memory y m n ≡ takes_memory (flipped_command (row_count t) y) (row_count t) (col_count t)) (memory-flipped (row_count t) (col_count t) y))

  pub through_cross : (y : CommandValue T) (t : List (List T)) → IsTable t → Through Transpose (transposed_command y) y t
  through_cross y t h =
      through_by Transpose (transposed_command y) y t
      (at_cross t h (λ m n. command_refusal y m n ≡ command_refusal (transposed_command y) (row_count t) (col_count t)) (command_refusal-transposed (row_count t) (col_count t) y))
      (λ d none. rows_after-transposed d y t h (command_refusal-transposed (row_count t) (col_count t) y ∙ none))
      (reply_to-transposed y t h)
      (at_cross t h (λ m n. takes_memory y m n ≡ takes_memory (transposed_command y) (row_count t) (col_count t)) (memory-transposed (row_count t) (col_count t) y (IsSize-table t h)))

  -- a table stays one
  table-rows_after : (d : T) (x : CommandValue T) (t : List (List T)) → IsTable t → command_refusal x (row_count t) (col_count t) ≡ None → IsTable (rows_after d x t)
  table-rows_after d (set_cell r c v) t h none = IsTable-with_cell t h r c v
  table-rows_after d (swap_cells p q) t h none = IsTable-exchanged t h p q
  table-rows_after d (lines Row e) t h none = table-rows_edit d e t h none
  table-rows_after d (lines Col e) t h none = table-cols_edit d e t h none
  table-rows_after d (fill v) t h none = IsTable-filled v t h
  table-rows_after d clear t h none = record { nonempty = λ r lt. absurd (omega arith); even = λ r lt. absurd (omega arith) }
  table-rows_after d (apply u) t h none = IsTable-act u t h
  table-rows_after d x t h none = h

  pub table-step : (d : T) (x : CommandValue T) (t : List (List T)) → IsTable t → IsTable (step_rows d x t)
  unfolding step_rows
  table-step d x t h = unless_refused-table (command_refusal x (row_count t) (col_count t)) t (rows_after d x t) h (table-rows_after d x t h)
