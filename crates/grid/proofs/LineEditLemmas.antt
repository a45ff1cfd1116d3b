-- Edits of rows as the code of a grid does them, and of columns as those of rows between two transposes.
use Rattle.std.proofs.Common.{◌≡◌, ℕ, ◌+◌, ◌-◌, ◌<◌, ◌≤◌, Bool, true, false, not, ◌&&◌, Option, Some, None, List, [], ◌∷◌, Vec, nat_lt, if◌then◌else◌, IsTrue, MatchOption, Result, Ok, ◌↔◌, refl, sym, ◌∙◌, ap, subst, arith, ⊎_elim, insert, remove, slice_get, option_map, is_none, lt-ltb, le-ltb}
use Rattle.grid.proofs.Common.{cases_lt, on_ok_weaker, on_err_weaker, IfOk-weaker, slice_get_past, slice_get-get_or, row, row_count, col_count, cell, IsTable, GridValue, items_of_each, flipped, act, past_cols, cell_past_rows, flipped-flipped, Edit, read, push, insert_at, insert_all, pop, remove_at, delete_at, delete_range, expand, prepend, get, lines, ReplyValue, reply_value, done, cell_is, line_is, flag_is, refused, in_range, lines_refusal, pad_refusal, edit_refusal, pad_edit, without_rows, PadsRows, EditIsKnown, nothing, removes, range_effect, effect, after_effect, edit_reply, step_rows, step_reply, memory_at, Edited, Stepped}
use Rattle.grid_base.specs.declared.words.Symmetry.TheVariants.{Transpose}
use Rattle.grid_commands.specs.declared.command.Axis.{Axis}
use Rattle.grid_commands.specs.declared.command.Axis.TheVariants.{Row, Col}
use Rattle.grid_commands.specs.declared.command.Refusal.{Refusal}
use Rattle.grid_commands.specs.declared.command.Reply.{Reply}
use Rattle.grid.proofs.KnownLemmas.{by_clones}
use Rattle.grid.proofs.EditViewLemmas.{put_line, take_line}
use Rattle.grid.proofs.NoneTakenLemmas.{remove-past}
use Rattle.grid.proofs.ColEditLemmas.{across-across, rows-across, cols-across}
use Rattle.grid.proofs.TransposedEditLemmas.{twice_across}
use Rattle.grid.proofs.EditAcrossLemmas.{step_rows-across, step_reply-across, table-step_cols}
use Rattle.grid_commands.specs.declared.command.Reply.TheVariants as the

found_is : (found : Bool) (a b : ℕ) → IsTrue found ↔ (a ≤ b) → found ≡ not (nat_lt b a)
found_is true a b h = sym (ap not (le-ltb b a (h.0 refl)))
found_is false a b h = sym (ap not (⊎_elim {C = nat_lt b a ≡ true} (λ lt. lt-ltb b a lt) (λ le. absurd (true_is (h.1 le))) (cases_lt b a)))
  where
    true_is : IsTrue false → ⊥
    true_is e = cc e

-- the line after one is past the end where that one is the last
pub one_past : (at n : ℕ) → not (nat_lt n (at + 1)) ≡ nat_lt at n
one_past at n =
    ⊎_elim {C = not (nat_lt n (at + 1)) ≡ nat_lt at n}
    (λ lt. rw (lt-ltb n (at + 1) lt, le-ltb at n (omega arith)) refl)
    (λ le. rw (le-ltb n (at + 1) le, lt-ltb at n (omega arith)) refl)
    (cases_lt n (at + 1))

pub pad_none : (T : Type 0) (b : Bool) (m n k : ℕ) → edit_refusal m n (pad_edit {T = T} b k) ≡ pad_refusal m n k
pad_none T true m n k = refl
pad_none T false m n k = refl

module _ {T : Type 0} where
  -- an edit of rows by whether it is refused
  pub done_rows : (d : T) (e : Edit T) (t : List (List T)) → edit_refusal (row_count t) (col_count t) e ≡ None → after_effect d Row (effect (row_count t) e) t ≡ step_rows d (lines Row e) t
  unfolding step_rows
  done_rows d e t none = rw none refl

  pub done_reply : (e : Edit T) (t : List (List T)) → edit_refusal (row_count t) (col_count t) e ≡ None → edit_reply Row e (row_count t) t ≡ step_reply (lines Row e) t
  unfolding step_reply
  done_reply e t none = rw none refl

  pub refused_rows : (d : T) (e : Edit T) (t : List (List T)) (r : Refusal) → edit_refusal (row_count t) (col_count t) e ≡ Some r → t ≡ step_rows d (lines Row e) t
  unfolding step_rows
  refused_rows d e t r some = rw some refl

  refused_reply : (e : Edit T) (t : List (List T)) (r : Refusal) → edit_refusal (row_count t) (col_count t) e ≡ Some r → refused r ≡ step_reply (lines Row e) t
  unfolding step_reply
  refused_reply e t r some = rw some refl

  -- what is said of an edit of rows, from its rows and its reply
  pub done_edit : {A E : Type 0} (P : T → Type 0) (C : T → T → Type 0) (e : Edit T) (old new : GridValue T) (reply : Reply T A) → ((d : T) → EditIsKnown P d e → new.rows ≡ step_rows d (lines Row e) old.rows) → reply_value reply ≡ step_reply (lines Row e) old.rows → new.order ≡ old.order → Edited {T = T} {A = A} {E = E} P C Row e old new (Ok reply)
  done_edit P C e old new reply rows replied order =
      record { rows = rows; reply = λ same. replied; order = order; err_grid = tt; err_memory = tt }

  pub refused_edit : {A E : Type 0} (P : T → Type 0) (C : T → T → Type 0) (e : Edit T) (s : GridValue T) (r : Refusal) → edit_refusal (row_count s.rows) (col_count s.rows) e ≡ Some r → Edited {T = T} {A = A} {E = E} P C Row e s s (Ok (the.Refused r))
  refused_edit P C e s r some =
      done_edit P C e s s (the.Refused r) (λ d known. refused_rows d e s.rows r some) (refused_reply e s.rows r some) refl

  -- a position that isn't in range has no cell
  pub cell_past : (t : List (List T)) → IsTable t → (r c : ℕ) → in_range (row_count t) (col_count t) (r, c) ≡ false → cell t r c ≡ None
  cell_past t h r c e =
      ⊎_elim (λ lr.
      ⊎_elim (λ lc. let k : (true && true) ≡ false = rw (lt-ltb r (row_count t) lr, lt-ltb c (col_count t) lc) at e in absurd (both_no k))
      (λ ge. past_cols t h r c ge)
      (cases_lt c (col_count t)))
      (λ ge. cell_past_rows t r c ge)
      (cases_lt r (row_count t))
    where
      both_no : (true && true) ≡ false → ⊥
      both_no k = cc k

  pub get_past : (t : List (List T)) → IsTable t → (r c : ℕ) → in_range (row_count t) (col_count t) (r, c) ≡ false → cell_is None ≡ step_reply (get r c) t
  unfolding step_reply
  get_past t h r c e = ap cell_is (sym (cell_past t h r c e))

  -- a row that is read
  pub read_some : (at : ℕ) (t : List (List T)) → at < row_count t → line_is (Some (row t at)) ≡ step_reply (lines Row (read at)) t
  read_some at t lt = ap line_is (sym (slice_get-get_or t at [] lt)) ∙ done_reply (read at) t refl

  pub read_none : (at : ℕ) (t : List (List T)) → row_count t ≤ at → line_is None ≡ step_reply (lines Row (read at)) t
  read_none at t le = ap line_is (sym (slice_get_past t at le)) ∙ done_reply (read at) t refl

  pub read_rows : (d : T) (at : ℕ) (t : List (List T)) → t ≡ step_rows d (lines Row (read at)) t
  read_rows d at t = done_rows d (read at) t refl

  pub read_kept : (d : T) (a : Axis) (at : ℕ) (t : List (List T)) → t ≡ step_rows d (lines a (read at)) t
  unfolding step_rows
  read_kept d Row at t = refl
  read_kept d Col at t = refl

  -- a line that is inserted
  pub insert_done : (d : T) (at : ℕ) (line : List T) (t : List (List T)) → lines_refusal (row_count t) (col_count t) at (line ∷ []) ≡ None → insert t at line ≡ step_rows d (lines Row (insert_at at line)) t
  insert_done d at line t none = sym (put_line at line t) ∙ done_rows d (insert_at at line) t none

  pub insert_replied : (at : ℕ) (line : List T) (t : List (List T)) → lines_refusal (row_count t) (col_count t) at (line ∷ []) ≡ None → ◌≡◌ {A = ReplyValue T} done (step_reply (lines Row (insert_at at line)) t)
  insert_replied at line t none = done_reply (insert_at at line) t none

  -- several lines
  pub insert_all_memory : {A : Type 0} (at : ℕ) (several : List (Vec T A)) (t : List (List T)) → (several ≡ [] → ⊥) → lines_refusal (row_count t) (col_count t) at (items_of_each several) ≡ None → IsTrue (memory_at (lines Row (insert_all at (items_of_each several))) t)
  insert_all_memory at [] t some none = absurd (some refl)
  insert_all_memory at (line ∷ several) t some none = ap is_none none

  -- a push is an insert at the end
  pub pushed_edit : {A E : Type 0} (P : T → Type 0) (C : T → T → Type 0) (at : ℕ) (line : List T) (old new : GridValue T) (r : Result (Reply T A) E) → at ≡ row_count old.rows → Edited P C Row (insert_at at line) old new r → Edited P C Row (push line) old new r
  unfolding step_rows step_reply
  pushed_edit P C at line old new r e h =
      let h : Edited P C Row (insert_at (row_count old.rows) line) old new r = subst (λ i. Edited P C Row (insert_at i line) old new r) e h in
      record { rows = h.rows; reply = h.reply; order = h.order; err_grid = h.err_grid; err_memory = h.err_memory }

  -- a row that is removed
  range_is : (d : T) (i k : ℕ) (t : List (List T)) (b : Bool) → after_effect d Row (if b then nothing else removes i k) t ≡ (if b then t else without_rows i k t)
  range_is d i k t true = refl
  range_is d i k t false = refl

  pub removed_rows : (d : T) (at : ℕ) (t : List (List T)) → remove t at ≡ step_rows d (lines Row (remove_at at)) t
  removed_rows d at t =
      ⊎_elim {C = remove t at ≡ after_effect d Row (range_effect (row_count t) at 1) t}
      (λ lt. remove-past at t (omega arith) ∙ sym (range_is d at 1 t (nat_lt (row_count t) (at + 1)) ∙ rw (lt-ltb (row_count t) (at + 1) lt) refl))
      (λ le. sym (take_line at t) ∙ sym (range_is d at 1 t (nat_lt (row_count t) (at + 1)) ∙ rw (le-ltb (row_count t) (at + 1) le) refl))
      (cases_lt (row_count t) (at + 1))
      ∙ done_rows d (remove_at at) t refl

  pub removed_reply : {A : Type 0} (at : ℕ) (t : List (List T)) (taken : Option (Vec T A)) → MatchOption taken (row_count t ≤ at) (λ line. slice_get t at ≡ Some line.items) → ◌≡◌ {A = ReplyValue T} (line_is (option_map (λ l. l.items) taken)) (step_reply (lines Row (remove_at at)) t)
  removed_reply at t None h = ap line_is (sym (slice_get_past t at h)) ∙ done_reply (remove_at at) t refl
  removed_reply at t (Some line) h = ap line_is (sym h) ∙ done_reply (remove_at at) t refl

  -- popping is removing the last
  pub popped_rows : (d : T) (t : List (List T)) → remove t (row_count t - 1) ≡ step_rows d (lines Row pop) t
  unfolding step_rows
  popped_rows d t = removed_rows d (row_count t - 1) t

  pub popped_reply : {A : Type 0} (t : List (List T)) (taken : Option (Vec T A)) → MatchOption taken (t ≡ []) (λ line. slice_get t (row_count t - 1) ≡ Some line.items) → ◌≡◌ {A = ReplyValue T} (line_is (option_map (λ l. l.items) taken)) (step_reply (lines Row pop) t)
  popped_reply t None h = ap line_is (sym (slice_get_past t (row_count t - 1) (omega (arith, ap row_count h)))) ∙ done_reply pop t refl
  popped_reply t (Some line) h = ap line_is (sym h) ∙ done_reply pop t refl

  -- rows that are deleted
  pub range_rows : (d : T) (found : Bool) (start count : ℕ) (t : List (List T)) → IsTrue found ↔ (start + count ≤ row_count t) → (if found then without_rows start count t else t) ≡ step_rows d (lines Row (delete_range start count)) t
  range_rows d found start count t h =
      rw (found_is found (start + count) (row_count t) h) (by (nat_lt (row_count t) (start + count)))
      ∙ (sym (range_is d start count t (nat_lt (row_count t) (start + count))) ∙ done_rows d (delete_range start count) t refl)
    where
      by : (b : Bool) → (if not b then without_rows start count t else t) ≡ (if b then t else without_rows start count t)
      by true = refl
      by false = refl

  pub range_reply : (found : Bool) (start count : ℕ) (t : List (List T)) → IsTrue found ↔ (start + count ≤ row_count t) → ◌≡◌ {A = ReplyValue T} (flag_is found) (step_reply (lines Row (delete_range start count)) t)
  range_reply found start count t h = ap flag_is (found_is found (start + count) (row_count t) h) ∙ done_reply (delete_range start count) t refl

  -- deleting one row
  pub delete_rows_one : (d : T) (at : ℕ) (t : List (List T)) → step_rows d (lines Row (delete_range at 1)) t ≡ step_rows d (lines Row (delete_at at)) t
  unfolding step_rows
  delete_rows_one d at t = refl

  pub delete_reply_one : (at : ℕ) (t : List (List T)) → step_reply (lines Row (delete_range at 1)) t ≡ step_reply (lines Row (delete_at at)) t
  delete_reply_one at t =
      sym (done_reply (delete_range at 1) t refl) ∙ (ap flag_is (one_past at (row_count t)) ∙ done_reply (delete_at at) t refl)

  -- padding
  pub padded_rows : (d : T) (P : T → Type 0) (b : Bool) (at k : ℕ) (t new : List (List T)) → at ≡ (if b then row_count t else 0) → PadsRows P at k t new → EditIsKnown P d (pad_edit b k) → pad_refusal (row_count t) (col_count t) k ≡ None → new ≡ step_rows d (lines Row (pad_edit b k)) t
  padded_rows d P true at k t new e p one none = p.at_end e d one ∙ done_rows d (expand k) t none
  padded_rows d P false at k t new e p one none = p.at_start e d one ∙ done_rows d (prepend k) t none

  pub padded_reply : (b : Bool) (k : ℕ) (t : List (List T)) → pad_refusal (row_count t) (col_count t) k ≡ None → ◌≡◌ {A = ReplyValue T} done (step_reply (lines Row (pad_edit b k)) t)
  padded_reply true k t none = done_reply (expand k) t none
  padded_reply false k t none = done_reply (prepend k) t none

  -- an edit of rows between two transposes
  pub crossed_rows : (d : T) (e : Edit T) (t mid grown new : List (List T)) → IsTable t → mid ≡ act Transpose t → grown ≡ step_rows d (lines Row e) mid → new ≡ act Transpose grown → new ≡ step_rows d (lines Col e) t
  crossed_rows d e t mid grown new h transposed step back =
      back
      ∙ (ap (act Transpose) (step ∙ (ap (step_rows d (lines Row e)) transposed ∙ step_rows-across d e t h))
      ∙ across-across (step_rows d (lines Col e) t) (table-step_cols d e t h))

  pub crossed_reply : (e : Edit T) (t mid : List (List T)) (q : ReplyValue T) → IsTable t → mid ≡ act Transpose t → q ≡ step_reply (lines Row e) mid → q ≡ step_reply (lines Col e) t
  crossed_reply e t mid q h transposed step =
      step ∙ (ap (step_reply (lines Row e)) transposed ∙ step_reply-across e t h)

  pub crossed_edit : {A E : Type 0} (P : T → Type 0) (C : T → T → Type 0) (e : Edit T) (old mid late new : GridValue T) (r : Result (Reply T A) E) → mid.rows ≡ act Transpose old.rows → mid.order ≡ flipped old.order → Edited P C Row e mid late r → new.rows ≡ act Transpose late.rows → new.order ≡ flipped late.order → Edited P C Col e old new r
  crossed_edit P C e old mid late new r there turned h back turned_back =
      record {
        rows = on_ok_weaker r (λ same d known. crossed_rows d e old.rows mid.rows late.rows new.rows old.table there (same d known) back) h.rows;
        reply = IfOk-weaker r _ _ (λ reply same equal. crossed_reply e old.rows mid.rows (reply_value reply) old.table there (same equal)) h.reply;
        order = turned_back ∙ (ap flipped (h.order ∙ turned) ∙ flipped-flipped old.order);
        err_grid =
            on_err_weaker r (λ same. twice_across old mid late new old.table there turned same back turned_back) h.err_grid;
        err_memory = rw (there, rows-across old.rows old.table, cols-across old.rows old.table) at h.err_memory;
      }

-- an edit of lines is a step of its command
pub stepped_edit : {T A E : Type 0} {P : T → Type 0} {C : T → T → Type 0} {a : Axis} {e : Edit T} {old new : GridValue T} {r : Result (Reply T A) E} → Edited P C a e old new r → Stepped P C (lines a e) old.rows new.rows r
stepped_edit {C} {a} {e} {r} h = record { rows = h.rows; reply = h.reply; reply_by_clones = by_clones C (lines a e) r _ h.reply; err_memory = h.err_memory }
