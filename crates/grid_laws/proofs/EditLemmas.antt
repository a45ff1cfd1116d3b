-- What an edit costs in shifts is the least number of swaps that do it, of rows, of columns, and of a command.
use Rattle.std.proofs.Common.{◌≡◌, ℕ, ◌+◌, ◌-◌, ◌*◌, ◌<◌, ◌≤◌, true, false, Option, Some, None, ltb, eqb, List, [], ◌++◌, length, replicate, if◌then◌else◌, refl, sym, ◌∙◌, ap, subst, arith, ⊎_elim, nat_eq, is_none, append-nil, lt-ltb, eq-eqb, ne_eqb, mul-le-mul_right}
use Rattle.grid_laws.proofs.Common.{nil_from_length, cases_lt, cases_eq, cond-true, cond-false, row_count, col_count, IsTable, storage, flipped, act, order_after, Edit, delete_at, delete_range, expand, prepend, CommandValue, lines, pad_refusal, edit_refusal, command_symmetry, edit_shift, step_shift, insert_rows, without_rows, expanded_rows, prepended_rows, rows_added_shift, delete_rows_shift, effect, after_effect, step_rows, length-storage, rows-act, cols-act, cell-act, IsTable-act, flipped-flipped, copies, expanded-put, prepended-put, put-no_lines, IsTable-take, cols-take, rows-take, range_rows, delete_rows_one, done_rows, refused_rows, crossed_rows, table-step, IsLeast, HasDifferentCells, Lacks, EditShifts, Shifts, filled_up}
use Rattle.grid_base.specs.declared.order.Order.{Order}
use Rattle.grid_base.specs.declared.order.Order.TheVariants.{RowMajor, ColumnMajor}
use Rattle.grid_base.specs.declared.words.Symmetry.TheVariants.{Transpose}
use Rattle.grid_commands.specs.declared.command.Axis.TheVariants.{Row, Col}
use Rattle.grid_commands.specs.declared.command.Refusal.{Refusal}
use Rattle.grid_laws.proofs.ImageLemmas.{storage_across, different_image}
use Rattle.grid_laws.proofs.MirrorLemmas.{none_is_least}
use Rattle.grid_laws.proofs.DeleteLemmas.{delete_is_least}
use Rattle.grid_laws.proofs.PaddingLemmas.{padded_is_least}

module _ {T : Type 0} (d : T) where
  -- a list that is no longer takes no items d
  filled_none : (n : ℕ) (xs : List T) → n ≤ length xs → filled_up d n xs ≡ xs
  filled_none n xs le =
      let none : n - length xs ≡ 0 = omega arith in
      ap (λ k. xs ++ replicate k d) none ∙ append-nil xs

  -- k swaps are the least that make the storage after of that before
  abbrev IsLeastFor : Order → ℕ → List (List T) → List (List T) → Type 0
  IsLeastFor o k t new = IsLeast k (filled_up d (length (storage o new)) (storage o t)) (storage o new)

module _ {T : Type 0} (d : T) (o : Order) (t : List (List T)) (h : IsTable t) (u : HasDifferentCells t) where
  kept_is_least : (new : List (List T)) (k : ℕ) → new ≡ t → k ≡ 0 → IsLeastFor d o k t new
  kept_is_least new k e none =
      let same = ap (storage o) e in
      let len = ap length same in
      subst (λ x. IsLeastFor d o x t new) (sym none)
      (none_is_least (filled_up d (length (storage o new)) (storage o t)) (storage o new) (same ∙ sym (filled_none d (length (storage o new)) (storage o t) (omega arith))))

  -- the storage without rows is no longer
  fewer_cells : (i k : ℕ) → i + k ≤ row_count t → length (storage o (without_rows i k t)) ≤ length (storage o t)
  fewer_cells i k le =
      let long = length-storage o t h in
      let left = length-storage o (without_rows i k t) (IsTable-take i k t h le) in
      let rows = rows-take i k t le in
      ⊎_elim (λ some.
      let size : row_count (without_rows i k t) * col_count (without_rows i k t) ≡ row_count (without_rows i k t) * col_count t =
      ap (λ n. row_count (without_rows i k t) * n) (cols-take i k t h le (omega arith)) in
      let fewer : row_count (without_rows i k t) * col_count t ≤ row_count t * col_count t = mul-le-mul_right (col_count t) (omega arith) in
      omega arith)
      (λ none.
      let zero : row_count (without_rows i k t) ≡ 0 = omega arith in
      let size : row_count (without_rows i k t) * col_count (without_rows i k t) ≡ 0 =
      ap (λ m. m * col_count (without_rows i k t)) zero ∙ omega arith in
      omega arith)
      (cases_lt 0 (row_count (without_rows i k t)))

  range_is_least : (i k : ℕ) → IsLeastFor d o (delete_rows_shift o (row_count t) (col_count t) i k) t (step_rows d (lines Row (delete_range i k)) t)
  range_is_least i k =
      ⊎_elim (λ past.
      let none : delete_rows_shift o (row_count t) (col_count t) i k ≡ 0 = none_taken i k past in
      kept_is_least _ _ (sym (range_rows d false i k t ((λ e. cc e), (λ le. absurd (omega arith))))) none)
      (λ le.
      subst (IsLeastFor d o (delete_rows_shift o (row_count t) (col_count t) i k) t) (range_rows d true i k t ((λ e. le), (λ e. refl)))
      (subst (λ xs. IsLeast (delete_rows_shift o (row_count t) (col_count t) i k) xs (storage o (without_rows i k t)))
      (sym (filled_none d (length (storage o (without_rows i k t))) (storage o t) (fewer_cells i k le)))
      (delete_is_least o t i k h u le)))
      (cases_lt (row_count t) (i + k))
    where
      none_taken : (i k : ℕ) → row_count t < i + k → delete_rows_shift o (row_count t) (col_count t) i k ≡ 0
      none_taken i k past =
          ⊎_elim (λ z. cond-true (eqb k 0) 0 _ (eq-eqb k 0 z))
          (λ nz. cond-false (eqb k 0) 0 _ (ne_eqb k 0 nz) ∙ cond-true (ltb (row_count t) (i + k)) 0 _ (lt-ltb (row_count t) (i + k) past))
          (cases_eq k 0)

  no_rows_added : (o : Order) (m n i : ℕ) → rows_added_shift o m n i 0 ≡ 0
  no_rows_added RowMajor m n i = refl
  no_rows_added ColumnMajor m n i = refl

  -- padding that puts k rows before row i, where there are rows
  puts_is_least : Lacks d t → (i k : ℕ) → i ≤ row_count t → 0 < row_count t → IsLeastFor d o (rows_added_shift o (row_count t) (col_count t) i k) t (insert_rows i (copies k (col_count t) d) t)
  puts_is_least lack i k le more =
      ⊎_elim (λ none.
      kept_is_least _ _ (ap (λ x. insert_rows i (copies x (col_count t) d) t) none ∙ put-no_lines i [] t refl)
      (ap (rows_added_shift o (row_count t) (col_count t) i) none ∙ no_rows_added o (row_count t) (col_count t) i))
      (λ some. padded_is_least t h u d lack i k le (omega arith) more o)
      (cases_eq k 0)

  padding_is_least : Lacks d t → (e : Edit T) (i k : ℕ) (p : Option Refusal) → edit_refusal (row_count t) (col_count t) e ≡ p → i ≤ row_count t → (row_count t ≡ 0 → after_effect d Row (effect (row_count t) e) t ≡ t) → (0 < row_count t → after_effect d Row (effect (row_count t) e) t ≡ insert_rows i (copies k (col_count t) d) t) → IsLeastFor d o (if is_none p then (if nat_eq (row_count t) 0 then 0 else rows_added_shift o (row_count t) (col_count t) i k) else 0) t (step_rows d (lines Row e) t)
  padding_is_least lack e i k (Some r) refusal le bare put = kept_is_least _ _ (sym (refused_rows d e t r refusal)) refl
  padding_is_least lack e i k None refusal le bare put =
      subst (IsLeastFor d o (if nat_eq (row_count t) 0 then 0 else rows_added_shift o (row_count t) (col_count t) i k) t) (done_rows d e t refusal)
      (⊎_elim (λ none. kept_is_least _ _ (bare none) (cond-true (eqb (row_count t) 0) 0 _ (eq-eqb (row_count t) 0 none)))
      (λ some.
      subst (λ x. IsLeastFor d o x t (after_effect d Row (effect (row_count t) e) t)) (sym (cond-false (eqb (row_count t) 0) 0 _ (ne_eqb (row_count t) 0 some)))
      (subst (IsLeastFor d o (rows_added_shift o (row_count t) (col_count t) i k) t) (sym (put (omega arith)))
      (puts_is_least lack i k le (omega arith))))
      (cases_eq (row_count t) 0))

  expand_none : (k : ℕ) → row_count t ≡ 0 → expanded_rows k d t ≡ t
  expand_none k none = let e = nil_from_length t none in ap (expanded_rows k d) e ∙ sym e

  prepend_none : (k : ℕ) → row_count t ≡ 0 → prepended_rows k d t ≡ t
  prepend_none k none = let e = nil_from_length t none in ap (prepended_rows k d) e ∙ sym e

  rows_by_least : (e : Edit T) → EditShifts d t e → IsLeastFor d o (edit_shift o (row_count t) (col_count t) e) t (step_rows d (lines Row e) t)
  rows_by_least (delete_at i) s = subst (IsLeastFor d o (delete_rows_shift o (row_count t) (col_count t) i 1) t) (delete_rows_one d i t) (range_is_least i 1)
  rows_by_least (delete_range i k) s = range_is_least i k
  rows_by_least (expand k) s =
      padding_is_least s (expand k) (row_count t) k (pad_refusal (row_count t) (col_count t) k) refl (omega arith) (expand_none k) (expanded-put k d t)
  rows_by_least (prepend k) s =
      padding_is_least s (prepend k) 0 k (pad_refusal (row_count t) (col_count t) k) refl (omega arith) (prepend_none k) (prepended-put k d t)
  rows_by_least e s = absurd s

-- the transposed table lacks what the table lacks
lacks_across : {T : Type 0} (d : T) (t : List (List T)) → IsTable t → Lacks d t → Lacks d (act Transpose t)
lacks_across d t h lack = record {
  lacks = λ r c p e.
      let a = subst (λ x. r < x) (rows-act Transpose t) p.0 in
      let b = subst (λ x. c < x) (cols-act Transpose t h) p.1 in
      lack.lacks c r (b, a) (sym (cell-act Transpose t r c h a b) ∙ e);
}

shifts_across : {T : Type 0} (d : T) (t : List (List T)) (e : Edit T) → IsTable t → EditShifts d t e → EditShifts d (act Transpose t) e
shifts_across d t (expand k) h s = lacks_across d t h s
shifts_across d t (prepend k) h s = lacks_across d t h s
shifts_across d t (delete_at i) h s = tt
shifts_across d t (delete_range i k) h s = tt
shifts_across d t e h s = absurd s

module _ {T : Type 0} (d : T) (o : Order) (t : List (List T)) (h : IsTable t) (u : HasDifferentCells t) where
  -- columns are the rows of the transposed table in the other order
  cols_by_least : (e : Edit T) → EditShifts d t e → IsLeastFor d o (edit_shift (flipped o) (col_count t) (row_count t) e) t (step_rows d (lines Col e) t)
  cols_by_least e s =
      let v = act Transpose t in
      let hv = IsTable-act Transpose t h in
      let w = step_rows d (lines Row e) v in
      let after : storage (flipped o) w ≡ storage o (step_rows d (lines Col e) t) =
      sym (storage_across (flipped o) w (table-step d (lines Row e) v hv))
      ∙ (ap (λ x. storage x (act Transpose w)) (flipped-flipped o)
      ∙ ap (storage o) (crossed_rows d e t v w (act Transpose w) h refl refl refl)) in
      subst (λ m. IsLeastFor d o (edit_shift (flipped o) m (row_count t) e) t (step_rows d (lines Col e) t)) (rows-act Transpose t)
      (subst (λ n. IsLeastFor d o (edit_shift (flipped o) (row_count v) n e) t (step_rows d (lines Col e) t)) (cols-act Transpose t h)
      (subst (λ ys. IsLeast (edit_shift (flipped o) (row_count v) (col_count v) e) (filled_up d (length ys) (storage o t)) ys) after
      (subst (λ xs. IsLeast (edit_shift (flipped o) (row_count v) (col_count v) e) (filled_up d (length (storage (flipped o) w)) xs) (storage (flipped o) w)) (storage_across o t h)
      (rows_by_least d (flipped o) v hv (different_image Transpose t h u) e (shifts_across d t e h s)))))

  pub shift_is_least : (x : CommandValue T) → Shifts d t x → IsLeastFor d o (step_shift x o (row_count t) (col_count t)) t (step_rows d x t)
  shift_is_least (lines Row e) s = rows_by_least d o t h u e s
  shift_is_least (lines Col e) s = cols_by_least e s
  shift_is_least x s = absurd s

-- such a command leaves the order
pub order_kept : {T : Type 0} (d : T) (t : List (List T)) (x : CommandValue T) (o : Order) → Shifts d t x → order_after (command_symmetry x) o ≡ o
order_kept d t (lines a e) o s = refl
order_kept d t x o s = absurd s
