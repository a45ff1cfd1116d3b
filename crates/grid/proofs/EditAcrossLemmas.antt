-- Edits of lines that aren't refused: they fit, a table stays one, and those of columns are those of rows of the
-- transposed table.
use Rattle.std.proofs.Common.{◌≡◌, ℕ, zero, suc, ◌+◌, ◌-◌, ◌<◌, Bool, true, false, not, Some, None, List, [], ◌∷◌, length, nat_eq, nat_lt, if◌then◌else◌, refl, sym, ◌∙◌, ap, arith, ⊎_elim, ◌≤◌, subst, Option, slice_get, eqb-true, ne_eqb, lt-ltb, le-ltb, ltb-false}
use Rattle.grid.proofs.Common.{list_any, list_all, cases_lt, and_parts, or_parts, eqb-false, row, row_count, col_count, IsTable, act, Edit, read, push, insert_at, insert_all, pop, remove_at, delete_at, delete_range, expand, prepend, lines, fitting_width, lines_refusal, edit_refusal, unless_refused, IsTable-act, act_is_transposed, line_is, refused, Effect, nothing, inserts, removes, range_effect, effect, after_effect, edit_reply, line_at, pads_end, pads_front, step_rows, step_reply, IsSize-table}
use Rattle.grid_commands.specs.declared.command.Refusal.TheVariants.{EmptyLine, Length, Index, TooLarge}
use Rattle.grid_base.specs.declared.words.Symmetry.TheVariants.{Transpose}
use Rattle.grid_commands.specs.declared.command.Axis.TheVariants.{Row, Col}
use Rattle.grid.proofs.EditSizeLemmas.{LinesFit, copies, expanded-put, prepended-put, IsTable-put, IsTable-take, IsTable-width, HasWidth-copies}
use Rattle.grid.proofs.ColEditLemmas.{across-across, rows-across, cols-across, ColumnsFit, insert_cols-across, without_cols-across, expanded_cols-across, prepended_cols-across}
use Rattle.grid_commands.specs.declared.command.Refusal.{Refusal}

module _ {T : Type 0} where
  -- each line passes a test that all pass
  pub all-at : (p : List T → Bool) (ls : List (List T)) (j : ℕ) → list_all p ls ≡ true → j < length ls → p (row ls j) ≡ true
  all-at p [] j e lt = absurd (omega arith)
  all-at p (l ∷ ls) zero e lt = (and_parts (p l) (list_all p ls) e).0
  all-at p (l ∷ ls) (suc j) e lt = all-at p ls j (and_parts (p l) (list_all p ls) e).1 (omega arith)

  pub any-at : (p : List T → Bool) (ls : List (List T)) (j : ℕ) → list_any p ls ≡ false → j < length ls → p (row ls j) ≡ false
  any-at p [] j e lt = absurd (omega arith)
  any-at p (l ∷ ls) zero e lt = (or_parts (p l) (list_any p ls) e).0
  any-at p (l ∷ ls) (suc j) e lt = any-at p ls j (or_parts (p l) (list_any p ls) e).1 (omega arith)

  pub fitting-some : (count width : ℕ) (ls : List (List T)) → 0 < count → fitting_width count width ls ≡ width
  fitting-some count width ls some = rw (ne_eqb count 0 (λ e. omega (arith, e, some))) refl

-- what no refusal says
pub record Passed (a e x : Bool) : Type 0 where
  pub empty : a ≡ false
  pub even : e ≡ true
  pub past : x ≡ false

pub passed : (a e x z : Bool) → (if a then Some EmptyLine else (if not e then Some Length else (if x then Some Index else (if z then Some TooLarge else None)))) ≡ None → Passed a e x
passed true e x z h = cc h
passed false false x z h = cc h
passed false true true z h = cc h
passed false true false z h = record { empty = refl; even = refl; past = refl }

module _ {T : Type 0} where
  -- an effect on rows that a table has room for
  pub record HasRange (i k : ℕ) (t : List (List T)) : Type 0 where
    pub is_table : IsTable t
    pub in_rows : i + k ≤ row_count t

  abbrev pub IsApplicable : Effect T → List (List T) → Type 0
  IsApplicable nothing t = IsTable t
  IsApplicable (inserts i ls) t = LinesFit i ls t
  IsApplicable (removes i k) t = HasRange i k t
  IsApplicable (pads_end k) t = IsTable t
  IsApplicable (pads_front k) t = IsTable t

  -- lines that aren't refused fit
  pub lines-fit : (i : ℕ) (ls t : List (List T)) → IsTable t → lines_refusal (row_count t) (col_count t) i ls ≡ None → LinesFit i ls t
  lines-fit i ls t h none =
      let w = fitting_width (row_count t) (col_count t) ls in
      let p = passed (list_any (λ l. nat_eq (length l) 0) ls) (list_all (λ l. nat_eq (length l) w) ls) (nat_lt (row_count t) i) _ none in
      let wide : (r : ℕ) → r < length ls → length (row ls r) ≡ w = λ r lt. eqb-true (length (row ls r)) w (all-at (λ l. nat_eq (length l) w) ls r p.even lt) in
      record {
        in_rows = ltb-false (row_count t) i p.past;
        old = h;
        new = record {
          nonempty = λ r lt. let ne = eqb-false (length (row ls r)) 0 (any-at (λ l. nat_eq (length l) 0) ls r p.empty lt) in omega (arith, ne);
          even = λ r lt. wide r lt ∙ sym (wide 0 (omega arith));
        };
        width = λ some more. wide 0 more ∙ fitting-some (row_count t) (col_count t) ls some;
      }

  applicable-range_effect : (i k : ℕ) (t : List (List T)) → IsTable t → IsApplicable (range_effect (row_count t) i k) t
  applicable-range_effect i k t h =
      ⊎_elim (λ lt. rw (lt-ltb (row_count t) (i + k) lt) h)
      (λ le. let g : IsApplicable (removes i k) t = record { is_table = h; in_rows = le } in rw (le-ltb (row_count t) (i + k) le) g)
      (cases_lt (row_count t) (i + k))

  pub applicable-edit : (e : Edit T) (t : List (List T)) → IsTable t → edit_refusal (row_count t) (col_count t) e ≡ None → IsApplicable (effect (row_count t) e) t
  applicable-edit (read i) t h none = h
  applicable-edit (push line) t h none = lines-fit (row_count t) (line ∷ []) t h none
  applicable-edit (insert_at i line) t h none = lines-fit i (line ∷ []) t h none
  applicable-edit (insert_all i ls) t h none = lines-fit i ls t h none
  applicable-edit pop t h none = applicable-range_effect (row_count t - 1) 1 t h
  applicable-edit (remove_at i) t h none = applicable-range_effect i 1 t h
  applicable-edit (delete_at i) t h none = applicable-range_effect i 1 t h
  applicable-edit (delete_range i k) t h none = applicable-range_effect i k t h
  applicable-edit (expand k) t h none = h
  applicable-edit (prepend k) t h none = h

  copies-fit : (i k : ℕ) (d : T) (r : List T) (t : List (List T)) → IsTable (r ∷ t) → i ≤ row_count (r ∷ t) → LinesFit i (copies k (col_count (r ∷ t)) d) (r ∷ t)
  copies-fit i k d r t h le =
      let n = col_count (r ∷ t) in
      let some : 0 < n = h.nonempty 0 (omega arith) in
      record {
        in_rows = le;
        old = h;
        new = IsTable-width (copies k n d) n some (HasWidth-copies k n d);
        width = λ e more. HasWidth-copies k n d 0 more;
      }

  -- a table stays one
  pub table-after : (d : T) (x : Effect T) (t : List (List T)) → IsApplicable x t → IsTable (after_effect d Row x t)
  table-after d nothing t g = g
  table-after d (inserts i ls) t g = IsTable-put i ls t g
  table-after d (removes i k) t g = IsTable-take i k t g.is_table g.in_rows
  table-after d (pads_end k) [] g = g
  table-after d (pads_end k) (r ∷ t) g =
      subst IsTable (sym (expanded-put k d (r ∷ t) (omega arith)))
      (IsTable-put (row_count (r ∷ t)) (copies k (col_count (r ∷ t)) d) (r ∷ t) (copies-fit (row_count (r ∷ t)) k d r t g (omega arith)))
  table-after d (pads_front k) [] g = g
  table-after d (pads_front k) (r ∷ t) g =
      subst IsTable (sym (prepended-put k d (r ∷ t) (omega arith)))
      (IsTable-put 0 (copies k (col_count (r ∷ t)) d) (r ∷ t) (copies-fit 0 k d r t g (omega arith)))

  columns-fit : (i : ℕ) (ls t : List (List T)) → IsTable t → LinesFit i ls (act Transpose t) → ColumnsFit i ls t
  columns-fit i ls t h g =
      record {
        in_cols = omega (arith, g.in_rows, rows-across t h);
        old = h;
        new = g.new;
        height = λ some more. g.width (omega (arith, rows-across t h, (IsSize-table t h).has_cols some)) more ∙ cols-across t h;
      }

  -- an effect on columns is the one on rows of the transposed table
  pub effect-across : (d : T) (x : Effect T) (t : List (List T)) → IsTable t → IsApplicable x (act Transpose t) → after_effect d Col x t ≡ act Transpose (after_effect d Row x (act Transpose t))
  effect-across d nothing t h g = sym (across-across t h)
  effect-across d (inserts i ls) t h g = insert_cols-across i ls t (columns-fit i ls t h g)
  effect-across d (removes i k) t h g = without_cols-across i k t h (omega (arith, g.in_rows, rows-across t h))
  effect-across d (pads_end k) t h g = expanded_cols-across k d t h
  effect-across d (pads_front k) t h g = prepended_cols-across k d t h

  module _ (d : T) (x : Effect T) (t : List (List T)) (h : IsTable t) where
    rows-transpose : IsApplicable x (act Transpose t) → after_effect d Row x (act Transpose t) ≡ act Transpose (after_effect d Col x t)
    rows-transpose g =
        sym (ap (act Transpose) (effect-across d x t h g) ∙ across-across (after_effect d Row x (act Transpose t)) (table-after d x (act Transpose t) g))

    table-after_col : IsApplicable x (act Transpose t) → IsTable (after_effect d Col x t)
    table-after_col g =
        subst IsTable (sym (effect-across d x t h g)) (IsTable-act Transpose (after_effect d Row x (act Transpose t)) (table-after d x (act Transpose t) g))

  module _ (d : T) (e : Edit T) (t : List (List T)) (h : IsTable t) where
    -- an edit of rows of the transposed table
    pub rows-edit_across : edit_refusal (col_count t) (row_count t) e ≡ None → after_effect d Row (effect (col_count t) e) (act Transpose t) ≡ act Transpose (after_effect d Col (effect (col_count t) e) t)
    rows-edit_across none =
        let v = act Transpose t in
        let g : IsApplicable (effect (row_count v) e) v = applicable-edit e v (IsTable-act Transpose t h) (rw (rows-across t h, cols-across t h) none) in
        rows-transpose d (effect (col_count t) e) t h (subst (λ k. IsApplicable (effect k e) v) (rows-across t h) g)

    -- a table stays one
    pub table-cols_edit : edit_refusal (col_count t) (row_count t) e ≡ None → IsTable (after_effect d Col (effect (col_count t) e) t)
    table-cols_edit none =
        let v = act Transpose t in
        let g : IsApplicable (effect (row_count v) e) v = applicable-edit e v (IsTable-act Transpose t h) (rw (rows-across t h, cols-across t h) none) in
        table-after_col d (effect (col_count t) e) t h (subst (λ k. IsApplicable (effect k e) v) (rows-across t h) g)

  pub line-across : (t : List (List T)) (i : ℕ) → line_at Row i (act Transpose t) ≡ line_at Col i t
  line-across t i = ap (λ u. slice_get u i) (act_is_transposed t)

  reply-across : (e : Edit T) (count : ℕ) (t : List (List T)) → edit_reply Row e count (act Transpose t) ≡ edit_reply Col e count t
  reply-across (read i) count t = ap line_is (line-across t i)
  reply-across pop count t = ap line_is (line-across t (count - 1))
  reply-across (remove_at i) count t = ap line_is (line-across t i)
  reply-across e count t = refl

  pub unless_refused-table : (p : Option Refusal) (t after : List (List T)) → IsTable t → (p ≡ None → IsTable after) → IsTable (unless_refused p (λ r. t) after)
  unless_refused-table None t after h k = k refl
  unless_refused-table (Some r) t after h k = h

  pub table-step_cols : (d : T) (e : Edit T) (t : List (List T)) → IsTable t → IsTable (step_rows d (lines Col e) t)
  unfolding step_rows
  table-step_cols d e t h = unless_refused-table (edit_refusal (col_count t) (row_count t) e) t _ h (table-cols_edit d e t h)

  unless_refused-across : (p : Option Refusal) (t by_rows by_cols : List (List T)) → (p ≡ None → by_rows ≡ act Transpose by_cols) → unless_refused p (λ r. act Transpose t) by_rows ≡ act Transpose (unless_refused p (λ r. t) by_cols)
  unless_refused-across None t by_rows by_cols k = k refl
  unless_refused-across (Some r) t by_rows by_cols k = refl

  -- a step of an edit of rows of the transposed table
  pub step_rows-across : (d : T) (e : Edit T) (t : List (List T)) → IsTable t → step_rows d (lines Row e) (act Transpose t) ≡ act Transpose (step_rows d (lines Col e) t)
  unfolding step_rows
  step_rows-across d e t h = rw (rows-across t h, cols-across t h) (unless_refused-across (edit_refusal (col_count t) (row_count t) e) t _ _ (rows-edit_across d e t h))

  pub step_reply-across : (e : Edit T) (t : List (List T)) → IsTable t → step_reply (lines Row e) (act Transpose t) ≡ step_reply (lines Col e) t
  unfolding step_reply
  step_reply-across e t h = rw (rows-across t h, cols-across t h) (ap (unless_refused (edit_refusal (col_count t) (row_count t) e) (λ r. refused r)) (reply-across e (col_count t) t))
