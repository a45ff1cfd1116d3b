-- What a closure answers at two lines, one item after another, and line by line.
use Rattle.std.proofs.Common.{◌≡◌, ℕ, ◌+◌, ◌*◌, ◌<◌, List, [], ◌∷◌, ◌++◌, Some, IsSomeAnd, length, set, sym, subst, ◌∙◌, arith, inl, inr, ⊎_elim, length-append, length-set, slice_get, Bor, ap}
use Rattle.std.proofs.lemmas.Option.{slice_get_past}
use Rattle.grid_base.proofs.Common.{cases_lt, row_count, col_count, cell, row}
use Rattle.grid_base.proofs.StorageLemmas.{get_append_left, get_append_right}
use Rattle.grid_base.proofs.WriteLemmas.{get-set_same, get-set_other}
use Rattle.grid_base.proofs.WeaveLemmas.{place_below}
use Rattle.grid_pairs.specs.Joined.{Joins}
use Rattle.grid_pairs.specs.Answered.{Appended, RowsJoined, Replaced, RowsReplaced, ColReplaced, ColsReplaced}

module _ {F A B C : Type 0} (returns : F → Bor A → Bor B → C → Type 0) (f : F) where
  -- one more answer
  pub appended_more : (n : ℕ) (xs : List A) (ys : List B) (old now : List C) (z : C) → Appended returns f n xs ys old now → Joins returns f (slice_get xs n) (slice_get ys n) z → Appended returns f (n + 1) xs ys old (now ++ z ∷ [])
  appended_more n xs ys old now z a j =
      let here : slice_get (now ++ z ∷ []) (length old + n) ≡ Some z = get_append_right now (z ∷ []) (length old + n) 0 (omega (arith, a.len)) in
      record {
        len = omega (arith, length-append now (z ∷ []), a.len);
        kept = λ k lt. get_append_left now (z ∷ []) k (omega (arith, a.len)) ∙ a.kept k lt;
        answers = λ k lt. ⊎_elim
            (λ low. subst (λ o. IsSomeAnd o (Joins returns f (slice_get xs k) (slice_get ys k))) (sym (get_append_left now (z ∷ []) (length old + k) (omega (arith, a.len)))) (a.answers k low))
            (λ past.
            let e : n ≡ k = omega arith in
            subst (λ i. IsSomeAnd (slice_get (now ++ z ∷ []) (length old + i)) (Joins returns f (slice_get xs i) (slice_get ys i))) e
            (subst (λ o. IsSomeAnd o (Joins returns f (slice_get xs n) (slice_get ys n))) (sym here) j))
            (cases_lt k n);
      }

  -- one more row
  pub joined_more : (r : ℕ) (t : List (List A)) (u : List (List B)) (old new : List C) → RowsJoined returns f r t u old → Appended returns f (col_count t) (row t r) (row u r) old new → RowsJoined returns f (r + 1) t u new
  joined_more r t u old new w a =
      let n = col_count t in
      record {
        len = omega (arith, a.len, w.len);
        answers = λ i j li lj. ⊎_elim
            (λ low. subst (λ o. IsSomeAnd o (Joins returns f (cell t i j) (cell u i j))) (sym (a.kept (i * n + j) (omega (arith, w.len, place_below i n j r low lj)))) (w.answers i j low lj))
            (λ past.
            let e : r ≡ i = omega arith in
            subst (λ k. IsSomeAnd (slice_get new (k * n + j)) (Joins returns f (cell t k j) (cell u k j))) e
            (subst (λ k. IsSomeAnd (slice_get new (k + j)) (Joins returns f (cell t r j) (cell u r j))) w.len (a.answers j lj)))
            (cases_lt i r);
      }

module _ {F A B : Type 0} (returns : F → Bor A → Bor B → A → Type 0) (f : F) where
  -- one more item
  pub replaced_more : (start n : ℕ) (ys : List B) (old now : List A) (z : A) → Replaced returns f start n ys old now → start + n < length now → Joins returns f (slice_get now (start + n)) (slice_get ys n) z → Replaced returns f start (n + 1) ys old (set now (start + n) z)
  replaced_more start n ys old now z a lt j =
      let same : slice_get now (start + n) ≡ slice_get old (start + n) = a.others (start + n) (inr (omega arith)) in
      let here : slice_get (set now (start + n) z) (start + n) ≡ Some z = get-set_same now (start + n) z lt in
      record {
        len = length-set now (start + n) z ∙ a.len;
        others = λ k out.
            let ne : k ≡ start + n → ⊥ = λ e. ⊎_elim (λ low. absurd (omega arith)) (λ high. absurd (omega arith)) out in
            get-set_other now (start + n) k z ne ∙ a.others k (⊎_elim (λ low. inl low) (λ high. inr (omega arith)) out);
        answers = λ k lk. ⊎_elim
            (λ low. subst (λ o. IsSomeAnd o (Joins returns f (slice_get old (start + k)) (slice_get ys k))) (sym (get-set_other now (start + n) (start + k) z (λ e. absurd (omega arith)))) (a.answers k low))
            (λ past.
            let e : n ≡ k = omega arith in
            subst (λ i. IsSomeAnd (slice_get (set now (start + n) z) (start + i)) (Joins returns f (slice_get old (start + i)) (slice_get ys i))) e
            (subst (λ o. IsSomeAnd o (Joins returns f (slice_get old (start + n)) (slice_get ys n))) (sym here) (subst (λ x. Joins returns f x (slice_get ys n) z) same j)))
            (cases_lt k n);
      }

  -- one more row
  pub rows_more : (r : ℕ) (u : List (List B)) (old now new : List A) → RowsReplaced returns f r u old now → Replaced returns f (r * col_count u) (col_count u) (row u r) now new → RowsReplaced returns f (r + 1) u old new
  rows_more r u old now new w a =
      let n = col_count u in
      record {
        len = a.len ∙ w.len;
        others = λ k out. a.others k (inr (omega arith)) ∙ w.others k (omega arith);
        answers = λ i j li lj. ⊎_elim
            (λ low. subst (λ o. IsSomeAnd o (Joins returns f (slice_get old (i * n + j)) (cell u i j))) (sym (a.others (i * n + j) (inl (place_below i n j r low lj)))) (w.answers i j low lj))
            (λ past.
            let e : r ≡ i = omega arith in
            let same : slice_get now (r * n + j) ≡ slice_get old (r * n + j) = w.others (r * n + j) (omega arith) in
            subst (λ k. IsSomeAnd (slice_get new (k * n + j)) (Joins returns f (slice_get old (k * n + j)) (cell u k j))) e
            (subst (λ x. IsSomeAnd (slice_get new (r * n + j)) (Joins returns f x (cell u r j))) same (a.answers j lj)))
            (cases_lt i r);
      }

  -- two places whose rows or whose columns differ
  apart : (n i j r c : ℕ) → j < n → c < n → (i ≡ r → j ≡ c → ⊥) → i * n + j ≡ r * n + c → ⊥
  apart n i j r c lj lc differ e =
      ⊎_elim (λ low. absurd (omega (arith, place_below i n j r low lj)))
      (λ high. ⊎_elim (λ below. absurd (omega (arith, place_below r n c i below lc)))
      (λ past. let same : i ≡ r = omega arith in differ same (omega (arith, ap (λ k. k * n) same)))
      (cases_lt r i))
      (cases_lt i r)

  -- one more cell of a column, at its place
  pub col_more : (m c : ℕ) (u : List (List B)) (old now : List A) (z : A) (at : ℕ) → at ≡ m * col_count u + c → ColReplaced returns f m c u old now → c < col_count u → at < length now → Joins returns f (slice_get now at) (cell u m c) z → ColReplaced returns f (m + 1) c u old (set now at z)
  col_more m c u old now z at is a lc lt j =
      let n = col_count u in
      let from : slice_get now (m * n + c) ≡ slice_get old (m * n + c) = a.others m c lc (λ _. omega arith) in
      let same : slice_get now at ≡ slice_get old (m * n + c) = ap (slice_get now) is ∙ from in
      let here : slice_get (set now at z) (m * n + c) ≡ Some z = ap (slice_get (set now at z)) (sym is) ∙ get-set_same now at z lt in
      record {
        len = length-set now at z ∙ a.len;
        others = λ i k lk out.
            get-set_other now at (i * n + k) z (λ same. apart n i k m c lk lc (λ e g. absurd (omega (arith, out g, e))) (same ∙ is))
            ∙ a.others i k lk (λ g. omega (arith, out g));
        answers = λ i li. ⊎_elim
            (λ low. subst (λ o. IsSomeAnd o (Joins returns f (slice_get old (i * n + c)) (cell u i c)))
            (sym (get-set_other now at (i * n + c) z (λ same. apart n i c m c lc lc (λ e g. absurd (omega (arith, e))) (same ∙ is)))) (a.answers i low))
            (λ past.
            let e : m ≡ i = omega arith in
            subst (λ k. IsSomeAnd (slice_get (set now at z) (k * n + c)) (Joins returns f (slice_get old (k * n + c)) (cell u k c))) e
            (subst (λ o. IsSomeAnd o (Joins returns f (slice_get old (m * n + c)) (cell u m c))) (sym here) (subst (λ x. Joins returns f x (cell u m c) z) same j)))
            (cases_lt i m);
      }

  -- one more column
  pub cols_more : (c : ℕ) (u : List (List B)) (old now new : List A) → ColsReplaced returns f c u old now → ColReplaced returns f (row_count u) c u now new → c < col_count u → ColsReplaced returns f (c + 1) u old new
  cols_more c u old now new w a lc =
      let n = col_count u in
      record {
        len = a.len ∙ w.len;
        others = λ i j lj out. a.others i j lj (λ e. absurd (omega (arith, e))) ∙ w.others i j lj (omega arith);
        answers = λ i j li lj. ⊎_elim
            (λ low. subst (λ o. IsSomeAnd o (Joins returns f (slice_get old (i * n + j)) (cell u i j)))
            (sym (a.others i j (omega arith) (λ e. absurd (omega (arith, e))))) (w.answers i j li low))
            (λ past.
            let e : c ≡ j = omega arith in
            subst (λ k. IsSomeAnd (slice_get new (i * n + k)) (Joins returns f (slice_get old (i * n + k)) (cell u i k))) e
            (subst (λ x. IsSomeAnd (slice_get new (i * n + c)) (Joins returns f x (cell u i c))) (w.others i c lc (omega arith)) (a.answers i li)))
            (cases_lt j c);
      }

  -- all columns, and so all rows
  pub cols_all : (u : List (List B)) (old new : List A) → length old ≡ row_count u * col_count u → ColsReplaced returns f (col_count u) u old new → RowsReplaced returns f (row_count u) u old new
  cols_all u old new len w = record {
    len = w.len;
    others = λ k out. slice_get_past new k (omega (arith, w.len)) ∙ sym (slice_get_past old k (omega arith));
    answers = λ i j li lj. w.answers i j li lj;
  }
