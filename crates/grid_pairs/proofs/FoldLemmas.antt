-- What a closure comes to over lines.
use Rattle.std.proofs.Common.{◌≡◌, ℕ, ◌+◌, ◌<◌, ◌≤◌, List, [], ◌∷◌, ◌++◌, Option, None, Some, IsSomeAnd, length, take, map, set, refl, sym, subst, ◌∙◌, ap, arith, ⊎_elim, length-append, length-set, take_all, slice_get, Bor}
use Rattle.std.specs.List.{fold}
use Rattle.grid_base.proofs.Common.{cases_lt, slice_get_within, get_or-map, length-map, slice_get-get_or, row, row_count, col_count, cell, IsTable, transposed}
use Rattle.grid_base.proofs.ClosureLemmas.{FoldsTo-append, take_next}
use Rattle.grid_base.proofs.TableLemmas.{same_cells}
use Rattle.grid_base.proofs.StorageLemmas.{get_append_left, get_append_right}
use Rattle.grid_base.proofs.WriteLemmas.{get-set_same, get-set_other}
use Rattle.grid_pairs.specs.Folded.{AreCopies, FoldsOn, FoldsOver, FoldsOverRows, FoldsAlways, IsFold, GoesOn, AreFolds, AreFoldsOf, FoldsMore, FoldsMoreOf, CallableInRows, CallableAtCol}
use Rattle.grid_pairs.proofs.JoinLemmas.{transposed_cell}

module _ {F S A : Type 0} (returns : F → S → Bor A → S → Type 0) (f : F) where
  -- before the first column
  pub folds_start : (init : S) (t : List (List A)) (m : ℕ) (zs : List S) → m ≡ row_count t → AreCopies init m zs → AreFoldsOf returns f init (row_count t) (λ r. take 0 (row t r)) zs
  folds_start init t m zs e w = record {
    count = w.count ∙ e;
    each = λ r lr. subst (λ o. IsSomeAnd o (FoldsOver returns f init (take 0 (row t r)))) (sym (w.each r (omega (arith, lr, e)))) refl;
  }

  -- one more cell
  pub fold_more : (init s z : S) (cells : List A) (k : ℕ) (p : Bor A) → FoldsOver returns f init (take k cells) s → slice_get cells k ≡ Some p.now → returns f s p z → FoldsOver returns f init (take (k + 1) cells) z
  fold_more init s z cells k p w e m =
      rw (take_next cells k p.now e) (FoldsTo-append (FoldsOn returns f) init s z (take k cells) p.now w (p, refl, m))

  pub fold_all : (init z : S) (cells : List A) (k : ℕ) → length cells ≤ k → FoldsOver returns f init (take k cells) z → FoldsOver returns f init cells z
  fold_all init z cells k le w = subst (λ l. FoldsOver returns f init l z) (take_all k cells le) w

  -- where the closure goes on by h, it comes to the fold by h
  fold_is : (h : S → A → S) → FoldsAlways returns f h → (init z : S) (cells : List A) → FoldsOver returns f init cells z → z ≡ fold h init cells
  fold_is h says init z [] w = sym w
  fold_is h says init z (x ∷ xs) w =
      let one : w.0 ≡ h init x = says init w.1.0 w.0 w.1.2 ∙ ap (λ y. h init y) w.1.1 in
      fold_is h says w.0 z xs w.2 ∙ ap (λ s. fold h s xs) one

  -- one more row, of those that are folded into one value
  pub rows_more : (init s z : S) (t : List (List A)) (r : ℕ) → r < length t → FoldsOverRows returns f init (take r t) s → FoldsOver returns f s (row t r) z → FoldsOverRows returns f init (take (r + 1) t) z
  rows_more init s z t r lt w one =
      rw (take_next t r (row t r) (slice_get-get_or t r [] lt)) (FoldsTo-append (FoldsOver returns f) init s z (take r t) (row t r) w one)

  -- all rows, folded into one value
  pub rows_all : (init z : S) (t : List (List A)) (k : ℕ) → length t ≤ k → FoldsOverRows returns f init (take k t) z → IsFold returns f init t z
  rows_all init z t k le w =
      let all : FoldsOverRows returns f init t z = subst (λ l. FoldsOverRows returns f init l z) (take_all k t le) w in
      record { over = all; pure = λ h says. rows_are h says init z t all }
    where
      rows_are : (h : S → A → S) → FoldsAlways returns f h → (init z : S) (t : List (List A)) → FoldsOverRows returns f init t z → z ≡ fold (fold h) init t
      rows_are h says init z [] w = sym w
      rows_are h says init z (line ∷ t) w =
          rows_are h says w.0 z t w.2 ∙ ap (λ s. fold (fold h) s t) (fold_is h says init w.0 line w.1)

  -- one more line
  pub folds_more : (init z : S) (m : ℕ) (line : ℕ → List A) (zs : List S) → AreFoldsOf returns f init m line zs → FoldsOver returns f init (line m) z → AreFoldsOf returns f init (m + 1) line (zs ++ z ∷ [])
  folds_more init z m line zs w one =
      let here : slice_get (zs ++ z ∷ []) m ≡ Some z = get_append_right zs (z ∷ []) m 0 (omega (arith, w.count)) in
      record {
        count = omega (arith, length-append zs (z ∷ []), w.count);
        each = λ r lt. ⊎_elim
            (λ low. subst (λ o. IsSomeAnd o (FoldsOver returns f init (line r))) (sym (get_append_left zs (z ∷ []) r (omega (arith, w.count)))) (w.each r low))
            (λ past.
            let e : m ≡ r = omega arith in
            subst (λ k. IsSomeAnd (slice_get (zs ++ z ∷ []) k) (FoldsOver returns f init (line k))) e
            (subst (λ o. IsSomeAnd o (FoldsOver returns f init (line m))) (sym here) one))
            (cases_lt r m);
      }

  -- all rows
  pub folds_all : (init : S) (t : List (List A)) (zs : List S) → AreFoldsOf returns f init (row_count t) (row t) zs → AreFolds returns f init t zs
  folds_all init t zs w = record {
    count = w.count;
    each = w.each;
    pure = λ h says.
        same_cells zs (map (fold h init) t) (w.count ∙ sym (length-map t (fold h init)))
        (λ k l.
        let lt : k < row_count t = omega (arith, w.count) in
        let d = fold h init (row t k) in
        some_is h says init (slice_get zs k) (row t k) (w.each k lt)
        ∙ sym (slice_get-get_or (map (fold h init) t) k d (omega (arith, lt, length-map t (fold h init))) ∙ ap Some (get_or-map (fold h init) t k [] d lt)));
  }
    where
      some_is : (h : S → A → S) → FoldsAlways returns f h → (init : S) (o : Option S) (cells : List A) → IsSomeAnd o (FoldsOver returns f init cells) → o ≡ Some (fold h init cells)
      some_is h says init None cells a = absurd a
      some_is h says init (Some z) cells a = ap Some (fold_is h says init z cells a)

  -- one more value is gone on from
  pub more_next : (n : ℕ) (cells : List A) (old now : List S) (y z : S) (p : Bor A) → FoldsMoreOf returns f n cells old now → slice_get now n ≡ Some y → slice_get cells n ≡ Some p.now → returns f y p z → FoldsMoreOf returns f (n + 1) cells old (set now n z)
  more_next n cells old now y z p w ey ex m =
      let lt : n < length now = slice_get_within now n y ey in
      let here : slice_get (set now n z) n ≡ Some z = get-set_same now n z lt in
      record {
        len = length-set now n z ∙ w.len;
        each = λ k lk. ⊎_elim
            (λ low. subst (λ o. IsSomeAnd o (GoesOn returns f (slice_get old k) (slice_get cells k))) (sym (get-set_other now n k z (λ e. absurd (omega arith)))) (w.each k low))
            (λ past.
            let e : n ≡ k = omega arith in
            subst (λ i. IsSomeAnd (slice_get (set now n z) i) (GoesOn returns f (slice_get old i) (slice_get cells i))) e
            (subst (λ o. IsSomeAnd o (GoesOn returns f (slice_get old n) (slice_get cells n))) (sym here) (y, p, sym (w.others n (omega arith)) ∙ ey, ex, m)))
            (cases_lt k n);
        others = λ k le. get-set_other now n k z (λ e. absurd (omega arith)) ∙ w.others k (omega arith);
      }

  pub more_all : (n : ℕ) (cells : List A) (old new : List S) → length old ≤ n → FoldsMoreOf returns f n cells old new → FoldsMore returns f cells old new
  more_all n cells old new le w = record { len = w.len; each = λ k lt. w.each k (omega arith) }

  -- a value that goes on
  went_on : (init : S) (o z : Option S) (x : Option A) (cells : List A) (c : ℕ) → IsSomeAnd o (FoldsOver returns f init (take c cells)) → IsSomeAnd z (GoesOn returns f o x) → slice_get cells c ≡ x → IsSomeAnd z (FoldsOver returns f init (take (c + 1) cells))
  went_on init o None x cells c a w e = absurd w
  went_on init o (Some z) x cells c a w e =
      fold_more init w.0 z cells c w.1 (subst (λ x. IsSomeAnd x (FoldsOver returns f init (take c cells))) w.2 a) (e ∙ w.3) w.4

  -- one more column
  pub folds_col : (init : S) (t : List (List A)) (c : ℕ) (old new : List S) → IsTable t → c < col_count t → AreFoldsOf returns f init (row_count t) (λ r. take c (row t r)) old → FoldsMore returns f (row (transposed t) c) old new → AreFoldsOf returns f init (row_count t) (λ r. take (c + 1) (row t r)) new
  folds_col init t c old new h lc w more = record {
    count = more.len ∙ w.count;
    each = λ r lr. went_on init (slice_get old r) (slice_get new r) (slice_get (row (transposed t) c) r) (row t r) c (w.each r lr) (more.each r (omega (arith, lr, w.count))) (sym (transposed_cell t h r c lr lc));
  }

  -- all columns
  pub folds_cols : (init : S) (t : List (List A)) (c : ℕ) (zs : List S) → IsTable t → col_count t ≤ c → AreFoldsOf returns f init (row_count t) (λ r. take c (row t r)) zs → AreFoldsOf returns f init (row_count t) (row t) zs
  folds_cols init t c zs h le w = record {
    count = w.count;
    each = λ r lr. subst (λ l. IsSomeAnd (slice_get zs r) (FoldsOver returns f init l)) (take_all c (row t r) (omega (arith, h.even r lr))) (w.each r lr);
  }

  module _ (takes : F → S → Bor A → Type 0) (init : S) (t : List (List A)) (h : IsTable t) (can : CallableInRows takes returns f init t) where
    pub callable_col : (c : ℕ) (zs : List S) → c < col_count t → AreFoldsOf returns f init (row_count t) (λ r. take c (row t r)) zs → CallableAtCol takes f zs (row (transposed t) c)
    callable_col c zs lc w = record {
      at = λ k s p es ep.
          let lk : k < row_count t = omega (arith, slice_get_within zs k s es, w.count) in
          let e : cell t k c ≡ Some p.now = sym (transposed_cell t h k c lk lc) ∙ ep in
          can k c s p (lk, lc) e (subst (λ x. IsSomeAnd x (FoldsOver returns f init (take c (row t k)))) es (w.each k lk));
    }
