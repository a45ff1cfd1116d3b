-- Edits of lines through the flip of the rows and the transpose: what they do, reply and take.
use Rattle.std.proofs.Common.{◌≡◌, ℕ, zero, suc, ◌+◌, ◌-◌, ◌<◌, ◌≤◌, Bool, true, false, not, ◌&&◌, None, List, [], ◌∷◌, length, map, reverse, nat_eq, nat_lt, if◌then◌else◌, refl, sym, ◌∙◌, ap, subst, arith, ⊎_elim, slice_get, is_none, option_map, ltb-false, lt-ltb, le-ltb}
use Rattle.grid_deferred.proofs.Common.{list_any, list_all, length-reverse, length-map, slice_get-map, slice_get_past, cases_lt, row_count, col_count, IsTable, act, Edit, read, push, insert_at, insert_all, pop, remove_at, delete_at, delete_range, line_is, flag_is, lines_refusal, edit_refusal, fitting_width, Effect, nothing, inserts, removes, range_effect, effect, after_effect, edit_takes_memory, has_lines, edit_reply, line_at, get-reverse, rows-act, cols-act, IsTable-act, act_is_transposed, across-across, rows-across, cols-across, IsApplicable, passed, applicable-edit, table-after, line-across, turned_reply, mirrored_line, mirrored_insertion, mirrored_start, edit_of_flipped, edit_of_reversed}
use Rattle.grid_base.specs.declared.words.Symmetry.TheVariants.{FlipRows, Transpose}
use Rattle.grid_commands.specs.declared.command.Axis.TheVariants.{Row, Col}
use Rattle.grid_deferred.proofs.MirrorLemmas.{flip_rows-is, flip_cols-is}
use Rattle.grid_deferred.proofs.EffectLemmas.{flipped_effect, reversed_effect}
use Rattle.grid_deferred.proofs.ThroughLemmas.{rows-flip, cols-flip, cols-transpose, flip-across}
use Rattle.grid_deferred.proofs.RefusalLemmas.{command_refusal-edit_of_flipped, command_refusal-edit_of_reversed}

pub place_past : (count i : ℕ) → nat_lt (mirrored_line count i) count ≡ nat_lt i count
place_past count i =
    ⊎_elim (λ lt. rw (lt-ltb i count lt) (lt-ltb (count - 1 - i) count (omega arith)))
    (λ le. rw (le-ltb i count le) (le-ltb i count le))
    (cases_lt i count)

start_past : (count i k : ℕ) → nat_lt count (mirrored_start count i k + k) ≡ nat_lt count (i + k)
start_past count i k =
    ⊎_elim (λ lt. rw (lt-ltb count (i + k) lt) (lt-ltb count (i + k) lt))
    (λ le. rw (le-ltb count (i + k) le) (le-ltb count (count - i - k + k) (omega arith)))
    (cases_lt count (i + k))

module _ {T : Type 0} where
  has_lines-is : (ls : List (List T)) → has_lines ls ≡ nat_lt 0 (length ls)
  has_lines-is [] = refl
  has_lines-is (l ∷ ls) = sym (lt-ltb 0 (suc (length ls)) (omega arith))

  -- an edit of flipped lines takes memory where the edit does
  pub memory-edit_of_flipped : (count width : ℕ) (e : Edit T) → edit_takes_memory count width (edit_of_flipped count e) ≡ edit_takes_memory count width e
  memory-edit_of_flipped count width (read i) = place_past count i
  memory-edit_of_flipped count width (remove_at i) = place_past count i
  memory-edit_of_flipped count width (push line) = ap is_none (command_refusal-edit_of_flipped count width (push line))
  memory-edit_of_flipped count width (insert_at i line) = ap is_none (command_refusal-edit_of_flipped count width (insert_at i line))
  memory-edit_of_flipped count width (insert_all i ls) =
      let some : has_lines (reverse ls) ≡ has_lines ls = has_lines-is (reverse ls) ∙ (ap (nat_lt 0) (length-reverse ls) ∙ sym (has_lines-is ls)) in
      ap (λ b. b && is_none (edit_refusal count width (edit_of_flipped count (insert_all i ls)))) some
      ∙ ap (λ r. has_lines ls && is_none r) (command_refusal-edit_of_flipped count width (insert_all i ls))
  memory-edit_of_flipped count width e = refl

  pub memory-edit_of_reversed : (count width : ℕ) (e : Edit T) → edit_takes_memory count width (edit_of_reversed e) ≡ edit_takes_memory count width e
  memory-edit_of_reversed count width (push line) = ap is_none (command_refusal-edit_of_reversed count width (push line))
  memory-edit_of_reversed count width (insert_at i line) = ap is_none (command_refusal-edit_of_reversed count width (insert_at i line))
  memory-edit_of_reversed count width (insert_all i ls) =
      let some : has_lines (map reverse ls) ≡ has_lines ls = has_lines-is (map reverse ls) ∙ (ap (nat_lt 0) (length-map ls reverse) ∙ sym (has_lines-is ls)) in
      ap (λ b. b && is_none (edit_refusal count width (edit_of_reversed (insert_all i ls)))) some
      ∙ ap (λ r. has_lines ls && is_none r) (command_refusal-edit_of_reversed count width (insert_all i ls))
  memory-edit_of_reversed count width (read i) = refl
  memory-edit_of_reversed count width e = refl

one-start : (count i : ℕ) → mirrored_line count i ≡ mirrored_start count i 1
one-start count i =
    ⊎_elim (λ lt. rw (lt-ltb i count lt, le-ltb count (i + 1) (omega arith)) (omega arith))
    (λ le. rw (le-ltb i count le, lt-ltb count (i + 1) (omega arith)) refl)
    (cases_lt i count)

gap-within : (count i : ℕ) → i ≤ count → mirrored_insertion count i ≡ count - i
gap-within count i le = rw (le-ltb count i le) refl

-- a line of the flipped table
pub get-mirrored : {X : Type 0} (xs : List X) (i : ℕ) → slice_get (reverse xs) i ≡ slice_get xs (mirrored_line (length xs) i)
get-mirrored xs i =
    ⊎_elim (λ lt. rw (lt-ltb i (length xs) lt) (get-reverse xs i lt))
    (λ le. rw (le-ltb i (length xs) le) (slice_get_past (reverse xs) i (omega (arith, length-reverse xs)) ∙ sym (slice_get_past xs i le)))
    (cases_lt i (length xs))

last-mirrored : (count : ℕ) → 0 < count → mirrored_line count (count - 1) ≡ 0
last-mirrored count some = rw (lt-ltb (count - 1) count (omega arith)) (omega arith)

module _ {T : Type 0} where
  range_effect-flipped : (count i k : ℕ) → range_effect {T = T} count (mirrored_start count i k) k ≡ flipped_effect count (range_effect count i k)
  range_effect-flipped count i k =
      ⊎_elim (λ lt. rw (lt-ltb count (i + k) lt, lt-ltb count (i + k) lt) refl)
      (λ le. rw (le-ltb count (i + k) le, le-ltb count (count - i - k + k) (omega arith)) refl)
      (cases_lt count (i + k))

  last-start : (count : ℕ) → range_effect {T = T} count 0 1 ≡ range_effect count (mirrored_start count (count - 1) 1) 1
  last-start zero = refl
  last-start (suc count) =
      let e : mirrored_start (suc count) (suc count - 1) 1 ≡ 0 = rw (le-ltb (suc count) (suc count - 1 + 1) (omega arith)) (omega arith) in
      ap (λ x. range_effect (suc count) x 1) (sym e)

  not-past : (count width i : ℕ) (ls : List (List T)) → lines_refusal count width i ls ≡ None → i ≤ count
  not-past count width i ls none =
      let w = fitting_width count width ls in
      ltb-false count i (passed (list_any (λ l. nat_eq (length l) 0) ls) (list_all (λ l. nat_eq (length l) w) ls) (nat_lt count i) _ none).past

  pub effect-edit_of_flipped : (count width : ℕ) (e : Edit T) → edit_refusal count width e ≡ None → effect count (edit_of_flipped count e) ≡ flipped_effect count (effect count e)
  effect-edit_of_flipped count width (push line) none = ap (λ i. inserts i (line ∷ [])) (omega arith)
  effect-edit_of_flipped count width (insert_at i line) none = ap (λ i. inserts i (line ∷ [])) (gap-within count i (not-past count width i (line ∷ []) none))
  effect-edit_of_flipped count width (insert_all i ls) none = ap (λ i. inserts i (reverse ls)) (gap-within count i (not-past count width i ls none))
  effect-edit_of_flipped count width pop none = last-start count ∙ range_effect-flipped count (count - 1) 1
  effect-edit_of_flipped count width (remove_at i) none = ap (λ x. range_effect count x 1) (one-start count i) ∙ range_effect-flipped count i 1
  effect-edit_of_flipped count width (delete_at i) none = ap (λ x. range_effect count x 1) (one-start count i) ∙ range_effect-flipped count i 1
  effect-edit_of_flipped count width (delete_range i k) none = range_effect-flipped count i k
  effect-edit_of_flipped count width (read i) none = refl
  effect-edit_of_flipped count width e none = refl

  range_effect-reversed : (count i k : ℕ) → range_effect {T = T} count i k ≡ reversed_effect (range_effect count i k)
  range_effect-reversed count i k = by (nat_lt count (i + k))
    where
      by : (b : Bool) → ◌≡◌ {A = Effect T} (if b then nothing else removes i k) (reversed_effect (if b then nothing else removes i k))
      by true = refl
      by false = refl

  pub effect-edit_of_reversed : (count : ℕ) (e : Edit T) → effect count (edit_of_reversed e) ≡ reversed_effect (effect count e)
  effect-edit_of_reversed count pop = range_effect-reversed count (count - 1) 1
  effect-edit_of_reversed count (remove_at i) = range_effect-reversed count i 1
  effect-edit_of_reversed count (delete_at i) = range_effect-reversed count i 1
  effect-edit_of_reversed count (delete_range i k) = range_effect-reversed count i k
  effect-edit_of_reversed count (read i) = refl
  effect-edit_of_reversed count e = refl

  module _ (d : T) (e : Edit T) (t : List (List T)) (h : IsTable t) where
    -- an edit of rows of the flipped table
    pub rows-edit_flipped : edit_refusal (row_count t) (col_count t) e ≡ None → after_effect d Row (effect (row_count t) e) (act FlipRows t) ≡ act FlipRows (after_effect d Row (effect (row_count t) (edit_of_flipped (row_count t) e)) t)
    rows-edit_flipped none =
        let v = act FlipRows t in
        let m : row_count v ≡ row_count t = rows-act FlipRows t in
        let n : col_count v ≡ col_count t = cols-act FlipRows t h in
        let g : IsApplicable (effect (row_count v) e) v = applicable-edit e v (IsTable-act FlipRows t h) (rw (m, n) none) in
        rows-flip d (effect (row_count t) e) t h (subst (λ k. IsApplicable (effect k e) v) m g)
        ∙ ap (λ x. act FlipRows (after_effect d Row x t)) (sym (effect-edit_of_flipped (row_count t) (col_count t) e none))

    -- of its columns
    pub cols-edit_flipped : edit_refusal (col_count t) (row_count t) e ≡ None → after_effect d Col (effect (col_count t) e) (act FlipRows t) ≡ act FlipRows (after_effect d Col (effect (col_count t) (edit_of_reversed e)) t)
    cols-edit_flipped none =
        let f = act FlipRows t in
        let v = act Transpose f in
        let hf = IsTable-act FlipRows t h in
        let m : row_count v ≡ col_count t = rows-across f hf ∙ cols-act FlipRows t h in
        let n : col_count v ≡ row_count t = cols-across f hf ∙ rows-act FlipRows t in
        let g : IsApplicable (effect (row_count v) e) v = applicable-edit e v (IsTable-act Transpose f hf) (rw (m, n) none) in
        cols-flip d (effect (col_count t) e) t h (subst (λ k. IsApplicable (effect k e) v) m g)
        ∙ ap (λ x. act FlipRows (after_effect d Col x t)) (sym (effect-edit_of_reversed (col_count t) e))

    pub cols-edit_across : edit_refusal (row_count t) (col_count t) e ≡ None → after_effect d Col (effect (row_count t) e) (act Transpose t) ≡ act Transpose (after_effect d Row (effect (row_count t) e) t)
    cols-edit_across none = cols-transpose d (effect (row_count t) e) t h (applicable-edit e t h none)

    -- a table stays one
    pub table-rows_edit : edit_refusal (row_count t) (col_count t) e ≡ None → IsTable (after_effect d Row (effect (row_count t) e) t)
    table-rows_edit none = table-after d (effect (row_count t) e) t (applicable-edit e t h none)

  module _ (t : List (List T)) (h : IsTable t) where
    line-flip : (i : ℕ) → line_at Row i (act FlipRows t) ≡ line_at Row (mirrored_line (row_count t) i) t
    line-flip i = ap (λ v. slice_get v i) (flip_rows-is t h) ∙ get-mirrored t i

    last-flip : line_at Row (row_count t - 1) (act FlipRows t) ≡ line_at Row 0 t
    last-flip = line-flip (row_count t - 1) ∙ by t
      where
        by : (t : List (List T)) → slice_get t (mirrored_line (length t) (length t - 1)) ≡ slice_get t 0
        by [] = refl
        by (r ∷ t) = ap (slice_get (r ∷ t)) (last-mirrored (length (r ∷ t)) (omega arith))

    line-reversed : (i : ℕ) → line_at Col i (act FlipRows t) ≡ option_map reverse (line_at Col i t)
    line-reversed i =
        let v = act Transpose t in
        ap (λ u. slice_get u i) (sym (act_is_transposed (act FlipRows t)) ∙ (flip-across t h ∙ flip_cols-is v (IsTable-act Transpose t h)))
        ∙ (slice_get-map reverse v i ∙ ap (λ u. option_map reverse (slice_get u i)) (act_is_transposed t))

    line-cross_col : (i : ℕ) → line_at Col i (act Transpose t) ≡ line_at Row i t
    line-cross_col i = ap (λ u. slice_get u i) (sym (act_is_transposed (act Transpose t)) ∙ across-across t h)

    pub reply-rows_flip : (e : Edit T) → edit_reply Row e (row_count t) (act FlipRows t) ≡ turned_reply FlipRows Row (edit_reply Row (edit_of_flipped (row_count t) e) (row_count t) t)
    reply-rows_flip (read i) = ap line_is (line-flip i)
    reply-rows_flip pop = ap line_is last-flip
    reply-rows_flip (remove_at i) = ap line_is (line-flip i)
    reply-rows_flip (delete_at i) = ap flag_is (sym (place_past (row_count t) i))
    reply-rows_flip (delete_range i k) = ap (λ b. flag_is (not b)) (sym (start_past (row_count t) i k))
    reply-rows_flip e = refl

    pub reply-cols_flip : (e : Edit T) → edit_reply Col e (col_count t) (act FlipRows t) ≡ turned_reply FlipRows Col (edit_reply Col (edit_of_reversed e) (col_count t) t)
    reply-cols_flip (read i) = ap line_is (line-reversed i)
    reply-cols_flip pop = ap line_is (line-reversed (col_count t - 1))
    reply-cols_flip (remove_at i) = ap line_is (line-reversed i)
    reply-cols_flip e = refl

    pub reply-rows_cross : (e : Edit T) → edit_reply Row e (col_count t) (act Transpose t) ≡ turned_reply Transpose Row (edit_reply Col e (col_count t) t)
    reply-rows_cross (read i) = ap line_is (line-across t i)
    reply-rows_cross pop = ap line_is (line-across t (col_count t - 1))
    reply-rows_cross (remove_at i) = ap line_is (line-across t i)
    reply-rows_cross e = refl

    pub reply-cols_cross : (e : Edit T) → edit_reply Col e (row_count t) (act Transpose t) ≡ turned_reply Transpose Col (edit_reply Row e (row_count t) t)
    reply-cols_cross (read i) = ap line_is (line-cross_col i)
    reply-cols_cross pop = ap line_is (line-cross_col (row_count t - 1))
    reply-cols_cross (remove_at i) = ap line_is (line-cross_col i)
    reply-cols_cross e = refl
