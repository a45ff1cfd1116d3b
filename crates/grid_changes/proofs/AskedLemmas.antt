-- What a command comes to: no change, or a change that leaves what the command leaves.
use Rattle.std.proofs.Common.{◌≡◌, ℕ, suc, ◌+◌, ◌-◌, ◌<◌, ◌≤◌, Bool, true, false, ◌&&◌, not, Option, Some, None, List, [], ◌∷◌, ◌++◌, length, take, drop, replicate, IsTrue, ◌↔◌, nat_lt, if◌then◌else◌, is_none, refl, sym, ◌∙◌, ap, arith, ◌⊎◌, inl, inr, ⊎_elim, slice_get, lt-ltb, le-ltb, append-nil, take-append-drop, map, ◌*◌, ◌≢◌, ne_eqb, subst, MatchBool}
use Rattle.std.proofs.Math.Nat.{mul-le-mul}
use Rattle.grid.proofs.Common.{row_count, col_count, cell, row, IsTable, InRange, GridValue, act, cases_lt, cases_eq, nil_from_length, rows-act, cols-act, same_tables, same_by_storage, storage, length-replicate, get-replicate, Edit, read, push, insert_at, insert_all, pop, remove_at, delete_at, delete_range, expand, prepend, lines, line_is, flag_is, done, refused, lines_refusal, pad_refusal, edit_refusal, insert_rows, without_rows, expanded_rows, prepended_rows, step_rows, step_reply, EditIsKnown, HasSize, EachCellIs, pad_edit, IsMade, IsSize-table}
use Rattle.grid.specs.Make.{IsOnlyDefault, HoldsDefaults}
use Rattle.grid.specs.AllCells.{filled}
use Rattle.grid.specs.Conversion.{equal_rows}
use Rattle.grid_commands.specs.declared.command.Reply.TheVariants as the
use Rattle.grid.specs.Prelude.{CommandValue, size, get, set_cell, swap_cells, clear, cell_is, in_range, with_cell, exchanged, fill, apply, ReplyValue, line_count, line_width, line_at, command_refusal, command_symmetry, order_after, ClonesAreEqual, reply_value, has_lines}
use Rattle.grid.proofs.EditAcrossLemmas.{lines-fit, line-across}
use Rattle.grid.proofs.Common.{slice_get_past, slice_get-get_or, transposed, act_is_transposed}
use Rattle.grid.proofs.EditSizeLemmas.{LinesFit, copies, expanded-put, prepended-put, row-copies, HasWidth-copies}
use Rattle.grid.proofs.EditViewLemmas.{take_line, IsTable-line, storage-line}
use Rattle.grid.proofs.LineEditLemmas.{one_past, done_rows, done_reply, removed_rows, range_rows, range_reply, crossed_rows, crossed_reply}
use Rattle.grid.proofs.NoneTakenLemmas.{remove-past}
use Rattle.grid_base.specs.declared.order.Order.TheVariants.{RowMajor}
use Rattle.grid_base.specs.declared.words.Symmetry.{Symmetry}
use Rattle.grid_base.specs.declared.words.Symmetry.TheVariants.{Transpose}
use Rattle.grid_commands.specs.declared.command.Axis.{Axis}
use Rattle.grid_commands.specs.declared.command.Axis.TheVariants.{Row, Col}
use Rattle.grid_commands.specs.declared.command.Refusal.{Refusal}
use Rattle.grid_commands.specs.declared.command.Refusal.TheVariants.{Index}
use Rattle.grid_commands.specs.declared.command.Reply.{Reply}
use Rattle.grid_changes.specs.Entry.{is_step, AnswerIsKnown, EditAnswerIsKnown}
use Rattle.grid_changes.specs.Timeline.{Board, Timeline, board_of, IsStepOn}
use Rattle.grid_changes.specs.Change.{lines_of, with_lines, less_lines, FitsLines}
use Rattle.grid_changes.specs.Asked.{IsDue, IsAsked, HasStepped}
use Rattle.grid_changes.specs.declared.asked.Asked.{Asked}
use Rattle.grid_changes.specs.declared.asked.Asked.TheVariants as an
use Rattle.grid_changes.proofs.ChangeLemmas.{lines-lines, IsTable-lines, same_board}

module _ {T : Type 0} where
  -- how many lines of an axis there are, and how long they are
  pub rows-lines : (a : Axis) (t : List (List T)) → row_count (lines_of a t) ≡ line_count a (row_count t) (col_count t)
  rows-lines Row t = refl
  rows-lines Col t = rows-act Transpose t

  pub cols-lines : (a : Axis) (t : List (List T)) → IsTable t → col_count (lines_of a t) ≡ line_width a (row_count t) (col_count t)
  cols-lines Row t h = refl
  cols-lines Col t h = cols-act Transpose t h

  -- an edit of lines by that of the rows
  pub stepped_lines : (d : T) (a : Axis) (e : Edit T) (t u : List (List T)) → IsTable t → u ≡ step_rows d (lines Row e) (lines_of a t) → lines_of a u ≡ step_rows d (lines a e) t
  stepped_lines d Row e t u h s = s
  stepped_lines d Col e t u h s = crossed_rows d e t (act Transpose t) u (act Transpose u) h refl s refl

  pub replied_lines : (a : Axis) (e : Edit T) (t : List (List T)) (q : ReplyValue T) → IsTable t → q ≡ step_reply (lines Row e) (lines_of a t) → q ≡ step_reply (lines a e) t
  replied_lines Row e t q h s = s
  replied_lines Col e t q h s = crossed_reply e t (act Transpose t) q h refl s

  -- an edit that leaves the rows leaves the table
  pub kept_lines : (d : T) (a : Axis) (e : Edit T) (t : List (List T)) → IsTable t → lines_of a t ≡ step_rows d (lines Row e) (lines_of a t) → t ≡ step_rows d (lines a e) t
  kept_lines d a e t h s = sym (lines-lines a t h) ∙ stepped_lines d a e t (lines_of a t) h s

  -- a refusal of an edit of lines is that of the rows
  pub refusal-lines : (a : Axis) (e : Edit T) (t : List (List T)) → IsTable t → edit_refusal (row_count (lines_of a t)) (col_count (lines_of a t)) e ≡ edit_refusal (line_count a (row_count t) (col_count t)) (line_width a (row_count t) (col_count t)) e
  refusal-lines a e t h =
      ap (λ m. edit_refusal m (col_count (lines_of a t)) e) (rows-lines a t)
      ∙ ap (λ n. edit_refusal (line_count a (row_count t) (col_count t)) n e) (cols-lines a t h)

  -- a command that is refused
  pub refused_step : (d : T) (x : CommandValue T) (t : List (List T)) (r : Refusal) → command_refusal x (row_count t) (col_count t) ≡ Some r → t ≡ step_rows d x t
  unfolding step_rows
  refused_step d x t r some = rw some refl

  pub refused_replied : (x : CommandValue T) (t : List (List T)) (r : Refusal) → command_refusal x (row_count t) (col_count t) ≡ Some r → refused r ≡ step_reply x t
  unfolding step_reply
  refused_replied x t r some = rw some refl

  pub refused_none : (x : CommandValue T) (t : List (List T)) (r : Refusal) → command_refusal x (row_count t) (col_count t) ≡ Some r → is_step x t ≡ false
  refused_none x t r some = rw some refl

module _ {T A : Type 0} (is_default : T → Type 0) (is_clone : T → T → Type 0) where
  -- what is said of an edit of lines, from its rows and its reply
  pub due_lines : (a : Axis) (e : Edit T) (old new : Board T) (reply : Reply T A) (b : Bool) → new.order ≡ old.order → ((d : T) → EditIsKnown is_default d e → new.rows ≡ step_rows d (lines a e) old.rows) → (EditAnswerIsKnown is_clone e → reply_value reply ≡ step_reply (lines a e) old.rows) → is_step (lines a e) old.rows ≡ b → IsDue is_default is_clone (lines a e) old new reply b
  due_lines a e old new reply b order rows replied one = record {
    leaves = record { rows = rows; applied = λ s k. cc k; order = order; is_one = one };
    replied = replied;
  }

module _ {T : Type 0} where
  -- lines that aren't refused: they fit
  module _ (a : Axis) (i : ℕ) (ls t : List (List T)) (h : IsTable t) (none : lines_refusal (line_count a (row_count t) (col_count t)) (line_width a (row_count t) (col_count t)) i ls ≡ None) where
    none_by_rows : lines_refusal (row_count (lines_of a t)) (col_count (lines_of a t)) i ls ≡ None
    none_by_rows = refusal-lines a (insert_all i ls) t h ∙ none

    pub lines_fit : LinesFit i ls (lines_of a t)
    lines_fit = lines-fit i ls (lines_of a t) (IsTable-lines a t h) none_by_rows

    pub put_fits : 0 < row_count ls → FitsLines a i ls t
    put_fits more = record {
      some = more;
      point = lines_fit.in_rows;
      width = ⊎_elim (λ e. inl (nil_from_length (lines_of a t) e)) (λ some. inr (lines_fit.width (omega (arith, some)) more)) (cases_eq (row_count (lines_of a t)) 0);
    }

    pub put_rows : (d : T) → with_lines a i ls t ≡ step_rows d (lines a (insert_all i ls)) t
    put_rows d = stepped_lines d a (insert_all i ls) t (insert_rows i ls (lines_of a t)) h (done_rows d (insert_all i ls) (lines_of a t) none_by_rows)

    pub put_replied : ◌≡◌ {A = ReplyValue T} done (step_reply (lines a (insert_all i ls)) t)
    put_replied = replied_lines a (insert_all i ls) t done h (done_reply (insert_all i ls) (lines_of a t) none_by_rows)

  -- one line put is several
  pub one_rows : (d : T) (a : Axis) (i : ℕ) (line : List T) (t : List (List T)) → step_rows d (lines a (insert_all i (line ∷ []))) t ≡ step_rows d (lines a (insert_at i line)) t
  unfolding step_rows
  one_rows d a i line t = refl

  pub one_replied : (a : Axis) (i : ℕ) (line : List T) (t : List (List T)) → step_reply (lines a (insert_all i (line ∷ []))) t ≡ step_reply (lines a (insert_at i line)) t
  unfolding step_reply
  one_replied a i line t = refl

  -- a row-major grid of one line
  pub one_line : (line : List T) (t : List (List T)) → IsTable t → 0 < length line → storage RowMajor t ≡ line → col_count t ≡ length line → t ≡ line ∷ []
  one_line line t h some stored wide = same_by_storage RowMajor t (line ∷ []) h (IsTable-line line some) wide (stored ∙ sym (storage-line RowMajor line some))

  -- no lines put
  pub none_put : (d : T) (a : Axis) (i : ℕ) (t : List (List T)) → IsTable t → lines_refusal {T = T} (line_count a (row_count t) (col_count t)) (line_width a (row_count t) (col_count t)) i [] ≡ None → t ≡ step_rows d (lines a (insert_all i [])) t
  none_put d a i t h none =
      sym (lines-lines a t h)
      ∙ (ap (lines_of a) (sym (ap (λ v. v ++ drop i (lines_of a t)) (append-nil (take i (lines_of a t))) ∙ take-append-drop i (lines_of a t)))
      ∙ put_rows a i [] t h none d)

  -- lines taken out
  module _ (a : Axis) (i k : ℕ) (t : List (List T)) (h : IsTable t) (found : Bool) (is : IsTrue found ↔ (i + k ≤ line_count a (row_count t) (col_count t))) where
    by_rows : IsTrue found ↔ (i + k ≤ row_count (lines_of a t))
    by_rows = (λ e. omega (arith, rows-lines a t, is.0 e), λ le. is.1 (omega (arith, rows-lines a t, le)))

    pub range_replied : ◌≡◌ {A = ReplyValue T} (flag_is found) (step_reply (lines a (delete_range i k)) t)
    range_replied = replied_lines a (delete_range i k) t (flag_is found) h (range_reply found i k (lines_of a t) by_rows)

  pub range_taken : (d : T) (a : Axis) (i k : ℕ) (t : List (List T)) → IsTable t → i + k ≤ line_count a (row_count t) (col_count t) → less_lines a i k t ≡ step_rows d (lines a (delete_range i k)) t
  range_taken d a i k t h le =
      stepped_lines d a (delete_range i k) t (without_rows i k (lines_of a t)) h
      (range_rows d true i k (lines_of a t) (λ _. omega (arith, rows-lines a t, le), λ _. refl))

  pub range_kept : (d : T) (a : Axis) (i k : ℕ) (t : List (List T)) → IsTable t → ((i + k ≤ line_count a (row_count t) (col_count t)) → ⊥) → t ≡ step_rows d (lines a (delete_range i k)) t
  range_kept d a i k t h past =
      kept_lines d a (delete_range i k) t h
      (range_rows d false i k (lines_of a t) (λ e. absurd (cc e), λ le. absurd (past (omega (arith, rows-lines a t, le)))))

  pub range_none : (d : T) (a : Axis) (i k : ℕ) (t : List (List T)) → IsTable t → k ≡ 0 → i + k ≤ line_count a (row_count t) (col_count t) → t ≡ step_rows d (lines a (delete_range i k)) t
  range_none d a i k t h none le =
      sym (lines-lines a t h)
      ∙ (ap (lines_of a) (sym (ap (λ j. take i (lines_of a t) ++ drop j (lines_of a t)) (omega (arith, none)) ∙ take-append-drop i (lines_of a t)))
      ∙ range_taken d a i k t h le)

  -- one line deleted
  pub delete_one_rows : (d : T) (a : Axis) (i : ℕ) (t : List (List T)) → step_rows d (lines a (delete_range i 1)) t ≡ step_rows d (lines a (delete_at i)) t
  unfolding step_rows
  delete_one_rows d a i t = refl

  -- one line removed
  pub line_taken : (d : T) (a : Axis) (i : ℕ) (t : List (List T)) → IsTable t → less_lines a i 1 t ≡ step_rows d (lines a (remove_at i)) t
  line_taken d a i t h =
      stepped_lines d a (remove_at i) t (without_rows i 1 (lines_of a t)) h (take_line i (lines_of a t) ∙ removed_rows d i (lines_of a t))

  pub line_kept : (d : T) (a : Axis) (i : ℕ) (t : List (List T)) → IsTable t → line_count a (row_count t) (col_count t) ≤ i → t ≡ step_rows d (lines a (remove_at i)) t
  line_kept d a i t h past =
      kept_lines d a (remove_at i) t h (sym (remove-past i (lines_of a t) (omega (arith, rows-lines a t, past))) ∙ removed_rows d i (lines_of a t))

  pub line_replied : (a : Axis) (i : ℕ) (t : List (List T)) → line_is (line_at a i t) ≡ step_reply (lines a (remove_at i)) t
  unfolding step_reply
  line_replied a i t = refl

  pub read_replied : (a : Axis) (i : ℕ) (t : List (List T)) → line_is (line_at a i t) ≡ step_reply (lines a (read i)) t
  unfolding step_reply
  read_replied a i t = refl

  -- a line of an axis
  line-lines : (a : Axis) (i : ℕ) (t : List (List T)) → slice_get (lines_of a t) i ≡ line_at a i t
  line-lines Row i t = refl
  line-lines Col i t = line-across t i

  pub line_past : (a : Axis) (i : ℕ) (t : List (List T)) → line_count a (row_count t) (col_count t) ≤ i → None ≡ line_at a i t
  line_past a i t le = sym (slice_get_past (lines_of a t) i (omega (arith, rows-lines a t, le))) ∙ line-lines a i t

  pub col_there : (i : ℕ) (t : List (List T)) → i < col_count t → Some (row (transposed t) i) ≡ slice_get (transposed t) i
  col_there i t lt = sym (slice_get-get_or (transposed t) i [] (omega (arith, ap length (act_is_transposed t), rows-act Transpose t, lt)))

  -- the last line popped is removed
  pub pop_rows : (d : T) (a : Axis) (i : ℕ) (t : List (List T)) → i ≡ line_count a (row_count t) (col_count t) - 1 → step_rows d (lines a (remove_at i)) t ≡ step_rows d (lines a pop) t
  unfolding step_rows
  pop_rows d a i t e = rw e refl

  pub pop_replied : (a : Axis) (i : ℕ) (t : List (List T)) → i ≡ line_count a (row_count t) (col_count t) - 1 → step_reply (lines a (remove_at i)) t ≡ step_reply (lines a pop) t
  unfolding step_reply
  pop_replied a i t e = rw e refl

  -- lines of defaults
  pub defaults_are : (k n : ℕ) (d : T) (u : List (List T)) → IsTable u → 0 < k → 0 < n → row_count u ≡ k → col_count u ≡ n → EachCellIs d u → u ≡ copies k n d
  defaults_are k n d u h some wide rows cols each =
      same_tables u (copies k n d) (rows ∙ sym (length-replicate k (replicate n d)))
      (λ r lt. h.even r lt ∙ (cols ∙ sym (HasWidth-copies k n d r (omega (arith, rows, length-replicate k (replicate n d))))))
      (λ r c lr lc.
      each r c (lr, omega (arith, h.even r lr))
      ∙ sym (ap (λ v. slice_get v c) (row-copies k n d r (omega (arith, rows))) ∙ get-replicate n d c (omega (arith, h.even r lr, cols))))

  module _ (d : T) (a : Axis) (at_end : Bool) (i k : ℕ) (t ls : List (List T)) (h : IsTable t) (some : 0 < line_count a (row_count t) (col_count t)) (none : pad_refusal (line_count a (row_count t) (col_count t)) (line_width a (row_count t) (col_count t)) k ≡ None) (place : i ≡ (if at_end then line_count a (row_count t) (col_count t) else 0)) (are : ls ≡ copies k (line_width a (row_count t) (col_count t)) d) where
    copies_put : (j : ℕ) → i ≡ j → insert_rows i ls (lines_of a t) ≡ insert_rows j (copies k (col_count (lines_of a t)) d) (lines_of a t)
    copies_put j e = ap (λ x. insert_rows x ls (lines_of a t)) e ∙ ap (λ x. insert_rows j x (lines_of a t)) (are ∙ ap (λ n. copies k n d) (sym (cols-lines a t h)))

  pub padded : (d : T) (a : Axis) (at_end : Bool) (i k : ℕ) (t ls : List (List T)) → IsTable t → 0 < line_count a (row_count t) (col_count t) → pad_refusal (line_count a (row_count t) (col_count t)) (line_width a (row_count t) (col_count t)) k ≡ None → i ≡ (if at_end then line_count a (row_count t) (col_count t) else 0) → ls ≡ copies k (line_width a (row_count t) (col_count t)) d → with_lines a i ls t ≡ step_rows d (lines a (pad_edit at_end k)) t
  padded d a true i k t ls h some none place are =
      stepped_lines d a (expand k) t (insert_rows i ls (lines_of a t)) h
      (copies_put d a true i k t ls h some none place are (row_count (lines_of a t)) (place ∙ sym (rows-lines a t))
      ∙ (sym (expanded-put k d (lines_of a t) (omega (arith, rows-lines a t, some)))
      ∙ done_rows d (expand k) (lines_of a t) (refusal-lines a (expand k) t h ∙ none)))
  padded d a false i k t ls h some none place are =
      stepped_lines d a (prepend k) t (insert_rows i ls (lines_of a t)) h
      (copies_put d a false i k t ls h some none place are 0 place
      ∙ (sym (prepended-put k d (lines_of a t) (omega (arith, rows-lines a t, some)))
      ∙ done_rows d (prepend k) (lines_of a t) (refusal-lines a (prepend k) t h ∙ none)))

  pub padded_replied : (a : Axis) (at_end : Bool) (k : ℕ) (t : List (List T)) → IsTable t → pad_refusal (line_count a (row_count t) (col_count t)) (line_width a (row_count t) (col_count t)) k ≡ None → ◌≡◌ {A = ReplyValue T} done (step_reply (lines a (pad_edit at_end k)) t)
  padded_replied a true k t h none = replied_lines a (expand k) t done h (done_reply (expand k) (lines_of a t) (refusal-lines a (expand k) t h ∙ none))
  padded_replied a false k t h none = replied_lines a (prepend k) t done h (done_reply (prepend k) (lines_of a t) (refusal-lines a (prepend k) t h ∙ none))

  -- padding of no lines, or by none
  expanded_none : (k : ℕ) (d : T) (v : List (List T)) → (row_count v ≡ 0) ⊎ (k ≡ 0) → v ≡ expanded_rows k d v
  expanded_none k d [] e = refl
  expanded_none k d (r ∷ v) e =
      ⊎_elim {C = (r ∷ v) ≡ expanded_rows k d (r ∷ v)} (λ z. absurd (omega (arith, z)))
      (λ z. sym (ap (λ n. (r ∷ v) ++ replicate n (replicate (length r) d)) z ∙ append-nil (r ∷ v))) e

  prepended_none : (k : ℕ) (d : T) (v : List (List T)) → (row_count v ≡ 0) ⊎ (k ≡ 0) → v ≡ prepended_rows k d v
  prepended_none k d [] e = refl
  prepended_none k d (r ∷ v) e =
      ⊎_elim {C = (r ∷ v) ≡ prepended_rows k d (r ∷ v)} (λ z. absurd (omega (arith, z)))
      (λ z. sym (ap (λ n. replicate n (replicate (length r) d) ++ (r ∷ v)) z)) e

  pub padded_none : (d : T) (a : Axis) (at_end : Bool) (k : ℕ) (t : List (List T)) → IsTable t → pad_refusal (line_count a (row_count t) (col_count t)) (line_width a (row_count t) (col_count t)) k ≡ None → (line_count a (row_count t) (col_count t) ≡ 0) ⊎ (k ≡ 0) → t ≡ step_rows d (lines a (pad_edit at_end k)) t
  padded_none d a true k t h none e =
      kept_lines d a (expand k) t h
      (expanded_none k d (lines_of a t) (⊎_elim (λ z. inl (rows-lines a t ∙ z)) (λ z. inr z) e)
      ∙ done_rows d (expand k) (lines_of a t) (refusal-lines a (expand k) t h ∙ none))
  padded_none d a false k t h none e =
      kept_lines d a (prepend k) t h
      (prepended_none k d (lines_of a t) (⊎_elim (λ z. inl (rows-lines a t ∙ z)) (λ z. inr z) e)
      ∙ done_rows d (prepend k) (lines_of a t) (refusal-lines a (prepend k) t h ∙ none))

-- tests that hold, and that don't
both_true : (a b : Bool) → a ≡ true → b ≡ true → (a && b) ≡ true
both_true a b e f = rw (e, f) refl

one_false : (a b : Bool) → (a ≡ false) ⊎ (b ≡ false) → (a && b) ≡ false
one_false false b e = refl
one_false true b e = ⊎_elim {C = b ≡ false} (λ k. absurd (cc k)) (λ k. k) e

none_less : (k : ℕ) → k ≡ 0 → nat_lt 0 k ≡ false
none_less k e = le-ltb 0 k (omega (arith, e))

module _ {T : Type 0} where
  -- which edits of lines are steps
  pub range_step : (a : Axis) (i k : ℕ) (t : List (List T)) → 0 < k → i + k ≤ line_count a (row_count t) (col_count t) → is_step (lines a (delete_range i k)) t ≡ true
  range_step a i k t some le = both_true _ _ (lt-ltb 0 k some) (ap not (le-ltb (line_count a (row_count t) (col_count t)) (i + k) le))

  pub range_no_step : (a : Axis) (i k : ℕ) (t : List (List T)) (found : Bool) → IsTrue found ↔ (i + k ≤ line_count a (row_count t) (col_count t)) → (found ≡ false) ⊎ (k ≡ 0) → is_step (lines a (delete_range i k)) t ≡ false
  range_no_step a i k t found is e =
      one_false _ _
      (⊎_elim (λ past.
      let far : line_count a (row_count t) (col_count t) < i + k = ⊎_elim (λ lt. lt) (λ le. absurd (no (sym past ∙ is.1 le))) (cases_lt (line_count a (row_count t) (col_count t)) (i + k)) in
      inr (ap not (lt-ltb (line_count a (row_count t) (col_count t)) (i + k) far)))
      (λ none. inl (none_less k none)) e)
    where
      no : false ≡ true → ⊥
      no k = cc k

  pub range_still : (d : T) (a : Axis) (i k : ℕ) (t : List (List T)) → IsTable t → (found : Bool) → IsTrue found ↔ (i + k ≤ line_count a (row_count t) (col_count t)) → (found ≡ false) ⊎ (k ≡ 0) → t ≡ step_rows d (lines a (delete_range i k)) t
  range_still d a i k t h found is e =
      ⊎_elim {C = t ≡ step_rows d (lines a (delete_range i k)) t}
      (λ past. range_kept d a i k t h (λ le. no (sym past ∙ is.1 le)))
      (λ none. ⊎_elim {C = t ≡ step_rows d (lines a (delete_range i k)) t}
      (λ far. range_kept d a i k t h (λ le. omega (arith, far, le)))
      (λ le. range_none d a i k t h none le)
      (cases_lt (line_count a (row_count t) (col_count t)) (i + k)))
      e
    where
      no : false ≡ true → ⊥
      no k = cc k

  pub pad_no_step : (a : Axis) (at_end : Bool) (k : ℕ) (t : List (List T)) → (line_count a (row_count t) (col_count t) ≡ 0) ⊎ (k ≡ 0) → is_step (lines a (pad_edit at_end k)) t ≡ false
  pad_no_step a true k t e = one_false _ _ (inr (one_false _ _ (⊎_elim (λ z. inl (none_less _ z)) (λ z. inr (none_less k z)) e)))
  pad_no_step a false k t e = one_false _ _ (inr (one_false _ _ (⊎_elim (λ z. inl (none_less _ z)) (λ z. inr (none_less k z)) e)))

  pub pad_step : (a : Axis) (at_end : Bool) (k : ℕ) (t : List (List T)) → 0 < line_count a (row_count t) (col_count t) → 0 < k → pad_refusal (line_count a (row_count t) (col_count t)) (line_width a (row_count t) (col_count t)) k ≡ None → is_step (lines a (pad_edit at_end k)) t ≡ true
  pad_step a true k t some more none = both_true _ _ (ap is_none none) (both_true _ _ (lt-ltb 0 _ some) (lt-ltb 0 k more))
  pad_step a false k t some more none = both_true _ _ (ap is_none none) (both_true _ _ (lt-ltb 0 _ some) (lt-ltb 0 k more))

  known_default : (P : T → Type 0) (d : T) (b : Bool) (k : ℕ) → EditIsKnown P d (pad_edit b k) → IsOnlyDefault P d
  known_default P d true k one = one
  known_default P d false k one = one

  -- the lines of an axis, and their cells
  wide-lines : (a : Axis) (t : List (List T)) → IsTable t → 0 < line_count a (row_count t) (col_count t) → 0 < line_width a (row_count t) (col_count t)
  wide-lines Row t h some = (IsSize-table t h).has_cols some
  wide-lines Col t h some = (IsSize-table t h).has_rows some

  -- a grid of defaults that is put as lines
  module _ (P : T → Type 0) (a : Axis) (at_end : Bool) (i k : ℕ) (t : List (List T)) (g : GridValue T) (h : IsTable t) (some : 0 < line_count a (row_count t) (col_count t)) (more : 0 < k) (none : pad_refusal (line_count a (row_count t) (col_count t)) (line_width a (row_count t) (col_count t)) k ≡ None) (place : i ≡ (if at_end then line_count a (row_count t) (col_count t) else 0)) (made : IsMade RowMajor k (line_width a (row_count t) (col_count t)) g) (defaults : HoldsDefaults P g) where
    cells_made : k * line_width a (row_count t) (col_count t) ≡ 0 → ⊥
    cells_made e = let wide = wide-lines a t h some in omega (arith, e, mul-le-mul more wide)

    pub defaults_fit : FitsLines a i g.rows t
    defaults_fit = record {
      some = omega (arith, made.size.rows cells_made, more);
      point = within at_end place;
      width = inr (made.size.cols cells_made ∙ sym (cols-lines a t h));
    }
      where
        within : (b : Bool) → i ≡ (if b then line_count a (row_count t) (col_count t) else 0) → i ≤ row_count (lines_of a t)
        within true e = omega (arith, e, rows-lines a t)
        within false e = omega (arith, e)

    pub defaults_rows : (d : T) → EditIsKnown P d (pad_edit at_end k) → with_lines a i g.rows t ≡ step_rows d (lines a (pad_edit at_end k)) t
    defaults_rows d known =
        padded d a at_end i k t g.rows h some none place
        (defaults_are k (line_width a (row_count t) (col_count t)) d g.rows g.table more (wide-lines a t h some) (made.size.rows cells_made) (made.size.cols cells_made) (defaults.one_default d (known_default P d at_end k known)))

  -- a table of one value
  one_value : (v : T) (xs : List T) → map (λ _. v) xs ≡ replicate (length xs) v
  one_value v [] = refl
  one_value v (x ∷ xs) = ap (λ r. v ∷ r) (one_value v xs)

  filled_copies : (v : T) (n : ℕ) (t : List (List T)) → ((r : ℕ) → r < row_count t → length (row t r) ≡ n) → filled v t ≡ copies (row_count t) n v
  filled_copies v n [] h = refl
  filled_copies v n (r ∷ t) h =
      let first : map (λ _. v) r ≡ replicate n v = one_value v r ∙ ap (λ k. replicate k v) (h 0 (omega arith)) in
      let rest : filled v t ≡ copies (row_count t) n v = filled_copies v n t (λ j lt. h (suc j) (omega arith)) in
      cc

  pub filled_size : (d v : T) (t u : List (List T)) → IsTable t → IsTable u → HasSize (row_count t) (col_count t) u → step_rows d (fill v) u ≡ filled v t
  unfolding step_rows
  filled_size d v t u h k s =
      ⊎_elim {C = filled v u ≡ filled v t}
      (λ none. ap (filled v) (s.none (ap (λ m. m * col_count t) none ∙ omega arith) ∙ sym (nil_from_length t none)))
      (λ some.
      let count : row_count t * col_count t ≡ 0 → ⊥ = λ e. omega (arith, e, mul-le-mul (more some) (h.nonempty 0 (more some))) in
      filled_copies v (col_count t) u (λ r lt. k.even r lt ∙ s.cols count)
      ∙ (ap (λ m. copies m (col_count t) v) (s.rows count) ∙ sym (filled_copies v (col_count t) t h.even)))
      (cases_eq (row_count t) 0)
    where
      more : row_count t ≢ 0 → 0 < row_count t
      more ne = omega (arith, ne)

  -- lines of one length that aren't empty, as a grid
  pub joined_lines : (ls t : List (List T)) → IsTable ls → 0 < row_count ls → t ≡ equal_rows ls → t ≡ ls
  joined_lines ls t h some e = e ∙ rw (ne_eqb (col_count ls) 0 (λ z. omega (arith, z, h.nonempty 0 some))) refl

  -- a list of no lines
  pub nothing_put : (d : T) (a : Axis) (i : ℕ) (ls t : List (List T)) → IsTable t → lines_refusal (line_count a (row_count t) (col_count t)) (line_width a (row_count t) (col_count t)) i ls ≡ None → ls ≡ [] → t ≡ step_rows d (lines a (insert_all i ls)) t
  nothing_put d a i ls t h none e = none_put d a i t h (ap (lines_refusal (line_count a (row_count t) (col_count t)) (line_width a (row_count t) (col_count t)) i) (sym e) ∙ none) ∙ ap (λ v. step_rows d (lines a (insert_all i v)) t) (sym e)

  pub nothing_no_step : (a : Axis) (i : ℕ) (ls t : List (List T)) → ls ≡ [] → is_step (lines a (insert_all i ls)) t ≡ false
  nothing_no_step a i ls t e = one_false _ _ (inr (ap has_lines e))

  -- a push is an insert at the end, and a delete of one line
  pub push_rows : (d : T) (a : Axis) (i : ℕ) (line : List T) (t : List (List T)) → i ≡ line_count a (row_count t) (col_count t) → step_rows d (lines a (insert_at i line)) t ≡ step_rows d (lines a (push line)) t
  unfolding step_rows
  push_rows d a i line t e = rw e refl

  pub push_replied : (a : Axis) (i : ℕ) (line : List T) (t : List (List T)) → i ≡ line_count a (row_count t) (col_count t) → step_reply (lines a (insert_at i line)) t ≡ step_reply (lines a (push line)) t
  unfolding step_reply
  push_replied a i line t e = rw e refl

  pub push_steps : (a : Axis) (i : ℕ) (line : List T) (t : List (List T)) → i ≡ line_count a (row_count t) (col_count t) → is_step (lines a (insert_at i line)) t ≡ is_step (lines a (push line)) t
  push_steps a i line t e = rw e refl

  pub pop_steps : (a : Axis) (i : ℕ) (t : List (List T)) → i ≡ line_count a (row_count t) (col_count t) - 1 → is_step (lines a (remove_at i)) t ≡ is_step (lines a pop) t
  pop_steps a i t e =
      let n = line_count a (row_count t) (col_count t) in
      ⊎_elim {C = nat_lt i n ≡ nat_lt 0 n}
      (λ some. lt-ltb i n (omega (arith, e, some)) ∙ sym (lt-ltb 0 n some))
      (λ none. le-ltb i n (omega (arith, none)) ∙ sym (le-ltb 0 n none))
      (cases_lt 0 n)

  pub delete_one_replied : (a : Axis) (i : ℕ) (t : List (List T)) → step_reply (lines a (delete_range i 1)) t ≡ step_reply (lines a (delete_at i)) t
  unfolding step_reply
  delete_one_replied a i t = ap flag_is (one_past i (line_count a (row_count t) (col_count t)))

  pub delete_steps : (a : Axis) (i : ℕ) (t : List (List T)) → is_step (lines a (delete_range i 1)) t ≡ is_step (lines a (delete_at i)) t
  delete_steps a i t = one_past i (line_count a (row_count t) (col_count t))

  -- a position in range, and one that isn't
  pub is_in_range : (t : List (List T)) (p : ℕ × ℕ) → InRange t p.0 p.1 → in_range (row_count t) (col_count t) p ≡ true
  is_in_range t p within = both_true _ _ (lt-ltb p.0 (row_count t) within.0) (lt-ltb p.1 (col_count t) within.1)

  pub isnt_in_range : (t : List (List T)) (p : ℕ × ℕ) → (InRange t p.0 p.1 → ⊥) → in_range (row_count t) (col_count t) p ≡ false
  isnt_in_range t p past =
      one_false _ _
      (⊎_elim (λ lr. ⊎_elim (λ lc. absurd (past (lr, lc))) (λ ge. inr (le-ltb p.1 (col_count t) ge)) (cases_lt p.1 (col_count t)))
      (λ ge. inl (le-ltb p.0 (row_count t) ge)) (cases_lt p.0 (row_count t)))

  pub several_step : (a : Axis) (i : ℕ) (ls t : List (List T)) → 0 < row_count ls → lines_refusal (line_count a (row_count t) (col_count t)) (line_width a (row_count t) (col_count t)) i ls ≡ None → is_step (lines a (insert_all i ls)) t ≡ true
  several_step a i [] t some none = absurd (omega arith)
  several_step a i (l ∷ ls) t some none = both_true _ _ (ap is_none none) refl

  pub one_step : (a : Axis) (i : ℕ) (line : List T) (t : List (List T)) → lines_refusal (line_count a (row_count t) (col_count t)) (line_width a (row_count t) (col_count t)) i (line ∷ []) ≡ None → is_step (lines a (insert_at i line)) t ≡ true
  one_step a i line t none = both_true _ _ (ap is_none none) refl

  pub line_step : (a : Axis) (i : ℕ) (t : List (List T)) → i < line_count a (row_count t) (col_count t) → is_step (lines a (remove_at i)) t ≡ true
  line_step a i t lt = lt-ltb i (line_count a (row_count t) (col_count t)) lt

  pub line_no_step : (a : Axis) (i : ℕ) (t : List (List T)) → line_count a (row_count t) (col_count t) ≤ i → is_step (lines a (remove_at i)) t ≡ false
  line_no_step a i t le = le-ltb i (line_count a (row_count t) (col_count t)) le

module _ {T A : Type 0} (is_default : T → Type 0) (is_clone : T → T → Type 0) where
  -- an edit of lines that is refused
  pub refused_due : (a : Axis) (e : Edit T) (b : Board T) (r : Refusal) → edit_refusal (line_count a (row_count b.rows) (col_count b.rows)) (line_width a (row_count b.rows) (col_count b.rows)) e ≡ Some r → IsDue {T = T} {A = A} is_default is_clone (lines a e) b b (the.Refused r) false
  refused_due a e b r some =
      due_lines is_default is_clone a e b b (the.Refused r) false refl (λ d known. refused_step d (lines a e) b.rows r some) (λ same. refused_replied (lines a e) b.rows r some) (refused_none (lines a e) b.rows r some)

  -- an edit that does what another does
  due_edit : (a : Axis) (e f : Edit T) (old new : Board T) (reply : Reply T A) (b : Bool) → ((d : T) → EditIsKnown is_default d f → EditIsKnown is_default d e) → (EditAnswerIsKnown is_clone f → EditAnswerIsKnown is_clone e) → ((d : T) → step_rows d (lines a e) old.rows ≡ step_rows d (lines a f) old.rows) → step_reply (lines a e) old.rows ≡ step_reply (lines a f) old.rows → is_step (lines a e) old.rows ≡ is_step (lines a f) old.rows → IsDue is_default is_clone (lines a e) old new reply b → IsDue is_default is_clone (lines a f) old new reply b
  due_edit a e f old new reply b known answers rows replied steps h =
      due_lines is_default is_clone a f old new reply b h.leaves.order (λ d k. h.leaves.rows d (known d k) ∙ rows d) (λ k. h.replied (answers k) ∙ replied) (sym steps ∙ h.leaves.is_one)

  asked_edit : (a : Axis) (e f : Edit T) (old : Board T) (asked : Asked T A) → ((d : T) → EditIsKnown is_default d f → EditIsKnown is_default d e) → (EditAnswerIsKnown is_clone f → EditAnswerIsKnown is_clone e) → ((d : T) → step_rows d (lines a e) old.rows ≡ step_rows d (lines a f) old.rows) → step_reply (lines a e) old.rows ≡ step_reply (lines a f) old.rows → is_step (lines a e) old.rows ≡ is_step (lines a f) old.rows → IsAsked is_default is_clone (lines a e) old asked → IsAsked is_default is_clone (lines a f) old asked
  asked_edit a e f old (an.Answer reply) known answers rows replied steps h = due_edit a e f old old reply false known answers rows replied steps h
  asked_edit a e f old (an.Making change reply) known answers rows replied steps h = (h.0, due_edit a e f old _ reply true known answers rows replied steps h.1)

  pub pushed_asked : (a : Axis) (i : ℕ) (line : List T) (old : Board T) (asked : Asked T A) → i ≡ line_count a (row_count old.rows) (col_count old.rows) → IsAsked is_default is_clone (lines a (insert_at i line)) old asked → IsAsked is_default is_clone (lines a (push line)) old asked
  pushed_asked a i line old asked e h = asked_edit a (insert_at i line) (push line) old asked (λ d k. k) (λ k. k) (λ d. push_rows d a i line old.rows e) (push_replied a i line old.rows e) (push_steps a i line old.rows e) h

  pub popped_asked : (a : Axis) (i : ℕ) (old : Board T) (asked : Asked T A) → i ≡ line_count a (row_count old.rows) (col_count old.rows) - 1 → IsAsked is_default is_clone (lines a (remove_at i)) old asked → IsAsked is_default is_clone (lines a pop) old asked
  popped_asked a i old asked e h = asked_edit a (remove_at i) pop old asked (λ d k. k) (λ k. k) (λ d. pop_rows d a i old.rows e) (pop_replied a i old.rows e) (pop_steps a i old.rows e) h

  pub deleted_asked : (a : Axis) (i : ℕ) (old : Board T) (asked : Asked T A) → IsAsked is_default is_clone (lines a (delete_range i 1)) old asked → IsAsked is_default is_clone (lines a (delete_at i)) old asked
  deleted_asked a i old asked h = asked_edit a (delete_range i 1) (delete_at i) old asked (λ d k. k) (λ k. k) (λ d. delete_one_rows d a i old.rows) (delete_one_replied a i old.rows) (delete_steps a i old.rows) h

-- a command on cells, or on the whole board
module _ {T A : Type 0} (is_default : T → Type 0) (is_clone : T → T → Type 0) where
  pub size_due : (b : Board T) (m n : ℕ) → m ≡ row_count b.rows → n ≡ col_count b.rows → IsDue {T = T} {A = A} is_default is_clone size b b (the.Size m n) false
  unfolding step_rows step_reply
  size_due b m n e f = record {
    leaves = record { rows = λ d k. refl; applied = λ s k. cc k; order = refl; is_one = refl };
    replied = λ same. rw (e, f) refl;
  }

  pub get_due : (b : Board T) (r c : ℕ) (x : Option T) → (ClonesAreEqual is_clone → x ≡ cell b.rows r c) → IsDue {T = T} {A = A} is_default is_clone (get r c) b b (the.Cell x) false
  unfolding step_rows step_reply
  get_due b r c x is = record {
    leaves = record { rows = λ d k. refl; applied = λ s k. cc k; order = refl; is_one = refl };
    replied = λ same. ap cell_is (is same);
  }

  -- what is refused
  pub cells_refused : (x : CommandValue T) (b : Board T) (r : Refusal) → ((s : Symmetry) → x ≡ apply s → ⊥) → order_after (command_symmetry x) b.order ≡ b.order → command_refusal x (row_count b.rows) (col_count b.rows) ≡ Some r → IsDue {T = T} {A = A} is_default is_clone x b b (the.Refused r) false
  cells_refused x b r apart order some = record {
    leaves = record { rows = λ d k. refused_step d x b.rows r some; applied = λ s k. absurd (apart s k); order = sym order; is_one = refused_none x b.rows r some };
    replied = λ same. refused_replied x b.rows r some;
  }

  pub set_due : (b : Board T) (r c : ℕ) (v : T) → InRange b.rows r c → IsDue {T = T} {A = A} is_default is_clone (set_cell r c v) b (record { rows = with_cell b.rows r c v; order = b.order }) the.Done true
  unfolding step_rows step_reply
  set_due b r c v within =
      let there = is_in_range b.rows (r, c) within in
      record {
        leaves = record { rows = λ d k. rw there refl; applied = λ s k. cc k; order = refl; is_one = rw there refl };
        replied = λ same. rw there refl;
      }

  pub set_refused : (b : Board T) (r c : ℕ) (v : T) → (InRange b.rows r c → ⊥) → IsDue {T = T} {A = A} is_default is_clone (set_cell r c v) b b (the.Refused Index) false
  set_refused b r c v past = cells_refused (set_cell r c v) b Index (λ s k. cc k) refl (rw (isnt_in_range b.rows (r, c) past) refl)

  pub swap_due : (b : Board T) (p q : ℕ × ℕ) → InRange b.rows p.0 p.1 → InRange b.rows q.0 q.1 → IsDue {T = T} {A = A} is_default is_clone (swap_cells p q) b (record { rows = exchanged b.rows p q; order = b.order }) the.Done true
  unfolding step_rows step_reply
  swap_due b p q ip iq =
      let both = both_true _ _ (is_in_range b.rows p ip) (is_in_range b.rows q iq) in
      record {
        leaves = record { rows = λ d k. rw both refl; applied = λ s k. cc k; order = refl; is_one = rw both refl };
        replied = λ same. rw both refl;
      }

  pub swap_refused : (b : Board T) (p q : ℕ × ℕ) → (InRange b.rows p.0 p.1 → ⊥) ⊎ (InRange b.rows q.0 q.1 → ⊥) → IsDue {T = T} {A = A} is_default is_clone (swap_cells p q) b b (the.Refused Index) false
  swap_refused b p q past =
      let none = one_false (in_range (row_count b.rows) (col_count b.rows) p) (in_range (row_count b.rows) (col_count b.rows) q) (⊎_elim (λ f. inl (isnt_in_range b.rows p f)) (λ f. inr (isnt_in_range b.rows q f)) past) in
      cells_refused (swap_cells p q) b Index (λ s k. cc k) refl (rw none refl)

  pub fill_due : (b new : Board T) (v : T) → (ClonesAreEqual is_clone → new.rows ≡ filled v b.rows) → new.order ≡ b.order → IsDue {T = T} {A = A} is_default is_clone (fill v) b new the.Done true
  unfolding step_rows step_reply
  fill_due b new v rows order = record {
    leaves = record { rows = λ d same. rows same; applied = λ s k. cc k; order = order; is_one = refl };
    replied = λ same. refl;
  }

  pub clear_due : (b new : Board T) → new.rows ≡ [] → new.order ≡ b.order → IsDue {T = T} {A = A} is_default is_clone clear b new the.Done true
  unfolding step_rows step_reply
  clear_due b new rows order = record {
    leaves = record { rows = λ d k. rows; applied = λ s k. cc k; order = order; is_one = refl };
    replied = λ same. refl;
  }

  pub apply_due : (b : Board T) (s : Symmetry) → IsDue {T = T} {A = A} is_default is_clone (apply s) b (record { rows = act s b.rows; order = order_after s b.order }) the.Done true
  unfolding step_rows step_reply
  apply_due b s = record {
    leaves = record { rows = λ d k. refl; applied = λ u k. let e : s ≡ u = cc k in ap (λ x. act x b.rows) e; order = refl; is_one = refl };
    replied = λ same. refl;
  }

-- where clones equal their source, every reply of a history is known
pub answer_known : {T : Type 0} (is_clone : T → T → Type 0) (x : CommandValue T) → ClonesAreEqual is_clone → AnswerIsKnown is_clone x
answer_known is_clone (get r c) same = same
answer_known is_clone (lines a (read i)) same = same
answer_known is_clone (lines a pop) same = same
answer_known is_clone (lines a (remove_at i)) same = same
answer_known is_clone x same = tt

-- what is said of a command that is no step, and of one that is
module _ {T A : Type 0} (is_default : T → Type 0) (is_clone : T → T → Type 0) (x : CommandValue T) (old : Timeline T) (reply : Reply T A) where
  pub stepped_none : IsDue is_default is_clone x (board_of old.grid) (board_of old.grid) reply false → HasStepped is_default is_clone x old old reply
  stepped_none h =
      let none : is_step x old.grid.rows ≡ false = h.leaves.is_one in
      record {
        due = subst (IsDue is_default is_clone x (board_of old.grid) (board_of old.grid) reply) (sym none) h;
        recorded = subst (λ b. MatchBool b (IsStepOn old old) (old ≡ old)) (sym none) refl;
      }

  pub stepped_on : (b : Board T) (new : Timeline T) → IsDue is_default is_clone x (board_of old.grid) b reply true → new.grid.rows ≡ b.rows → new.grid.order ≡ b.order → IsStepOn old new → HasStepped is_default is_clone x old new reply
  stepped_on b new h rows order on =
      let one : is_step x old.grid.rows ≡ true = h.leaves.is_one in
      let same : board_of new.grid ≡ b = same_board (board_of new.grid) b rows order in
      record {
        due = subst (IsDue is_default is_clone x (board_of old.grid) (board_of new.grid) reply) (sym one) (subst (λ v. IsDue is_default is_clone x (board_of old.grid) v reply true) (sym same) h);
        recorded = subst (λ v. MatchBool v (IsStepOn old new) (new ≡ old)) (sym one) on;
      }
