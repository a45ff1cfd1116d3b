-- Rows that are kept one after another, in place.
use Rattle.std.proofs.Common.{◌≡◌, ◌≢◌, ℕ, suc, ◌+◌, ◌-◌, ◌<◌, ◌≤◌, Bool, true, false, cond, IsTrue, ◌↔◌, if◌then◌else◌, List, [], ◌∷◌, ◌++◌, length, take, drop, get_or, set, refl, sym, ap, ◌∙◌, subst, arith, append_assoc, append-nil, drop-cons, add-one, swap, filter, drop-set-lt, length-set}
use Rattle.grid_base.proofs.Common.{items_where_true, ReturnsInTurn, IsFiltered, take_more, take_more_set, take-set-le, drop_all, swap_is}

module _ {X P : Type 0} (R : P → X → Bool → P → Type 0) where
  pub filtered_none : (p : P) → IsFiltered R p [] []
  filtered_none p = ([], p, refl, refl, refl)

  -- one item before the others
  pub filtered_one : (p q : P) (x : X) (b : Bool) (xs ys : List X) → R p x b q → IsFiltered R q xs ys → IsFiltered R p (x ∷ xs) (cond b (x ∷ ys) ys)
  filtered_one p q x b xs ys step rest = (b ∷ rest.0, rest.1, ap suc rest.2, (q, step, rest.3), chosen b)
    where
      chosen : (b : Bool) → cond b (x ∷ ys) ys ≡ items_where_true (b ∷ rest.0) (x ∷ xs)
      chosen true = ap (λ zs. x ∷ zs) rest.4
      chosen false = rest.4

  -- what was kept is what the test passes, where each answer is the test's
  pub filtered_by : (test : X → Bool) → ((p : P) (x : X) (b : Bool) (q : P) → R p x b q → b ≡ test x) → (p : P) (xs ys : List X) → IsFiltered R p xs ys → ys ≡ filter test xs
  filtered_by test says p xs ys f = f.4 ∙ by_answers p f.0 xs f.1 f.2 f.3
    where
      one : (x : X) (b t : Bool) (xs : List X) (bs : List Bool) → b ≡ t → test x ≡ t → items_where_true bs xs ≡ filter test xs → items_where_true (b ∷ bs) (x ∷ xs) ≡ filter test (x ∷ xs)
      one x b true xs bs e is h = rw (e, is) (ap (λ zs. x ∷ zs) h)
      one x b false xs bs e is h = rw (e, is) h

      by_answers : (p : P) (bs : List Bool) (xs : List X) (q : P) → length bs ≡ length xs → ReturnsInTurn R p bs xs q → items_where_true bs xs ≡ filter test xs
      by_answers p [] [] q e r = refl
      by_answers p [] (x ∷ xs) q e r = absurd (omega arith)
      by_answers p (b ∷ bs) [] q e r = absurd (omega arith)
      by_answers p (b ∷ bs) (x ∷ xs) q e r =
          let counts : length bs ≡ length xs = omega arith in
          one x b (test x) xs bs (says p x b r.0 r.1) refl (by_answers r.0 bs xs q counts r.2)

  -- calls at the first rows took the test from p to q; `kept` of them, which it passed, are in
  -- front, and those ahead are as they were
  pub record Retaining (p : P) (old : List X) (kept row : ℕ) (q : P) (now : List X) : Type 0 where
    pub behind : kept ≤ row
    pub count : length now ≡ length old
    pub ahead : drop row now ≡ drop row old
    pub goes : (ys : List X) → IsFiltered R q (drop row old) ys → IsFiltered R p old (take kept now ++ ys)

  module _ (p q r : P) (old : List X) (kept row : ℕ) (now : List X) (x : X) (i : Retaining p old kept row q now) (lt : row < length now) (is : x ≡ get_or now row x) where
    -- the rows ahead begin with x
    ahead_is : drop row old ≡ x ∷ drop (row + 1) old
    ahead_is =
        let within : row < length old = omega (arith, i.count) in
        let mine = drop-cons now row x lt in
        let theirs = drop-cons old row x within in
        let both : get_or now row x ∷ drop (suc row) now ≡ get_or old row x ∷ drop (suc row) old = sym mine ∙ (i.ahead ∙ theirs) in
        let first : get_or now row x ≡ get_or old row x = cc in
        rw add-one (theirs ∙ ap (λ y. y ∷ drop (suc row) old) (sym first ∙ sym is))

    later_is : drop (row + 1) now ≡ drop (row + 1) old
    later_is =
        let within : row < length old = omega (arith, i.count) in
        let both : get_or now row x ∷ drop (suc row) now ≡ get_or old row x ∷ drop (suc row) old = sym (drop-cons now row x lt) ∙ (i.ahead ∙ drop-cons old row x within) in
        rw add-one (cc)

    one_more : (b : Bool) (ys : List X) → R q x b r → IsFiltered R r (drop (row + 1) old) ys → IsFiltered R p old (take kept now ++ cond b (x ∷ ys) ys)
    one_more b ys step f =
        i.goes (cond b (x ∷ ys) ys) (subst (λ zs. IsFiltered R q zs (cond b (x ∷ ys) ys)) (sym ahead_is) (filtered_one q r x b (drop (row + 1) old) ys step f))

    pub retaining_no : (b : Bool) → R q x b r → b ≡ false → Retaining p old kept (row + 1) r now
    retaining_no b said missed = let step : R q x false r = subst (λ v. R q x v r) missed said in record {
      behind = omega (arith, i.behind);
      count = i.count;
      ahead = later_is;
      goes = λ ys f. one_more false ys step f;
    }

    passed : (new : List X) → R q x true r → take (kept + 1) new ≡ take kept now ++ x ∷ [] → (ys : List X) → IsFiltered R r (drop (row + 1) old) ys → IsFiltered R p old (take (kept + 1) new ++ ys)
    passed new step front ys f =
        let e : take kept now ++ x ∷ ys ≡ take (kept + 1) new ++ ys = rw front (sym (append_assoc (take kept now) (x ∷ []) ys)) in
        subst (IsFiltered R p old) e (one_more true ys step f)

    pub retaining_here : (b : Bool) → R q x b r → b ≡ true → kept ≡ row → Retaining p old (kept + 1) (row + 1) r now
    retaining_here b said passes same =
        let step : R q x true r = subst (λ v. R q x v r) passes said in
        let here : kept < length now = omega (arith, same) in
        let at : x ≡ get_or now kept x = is ∙ ap (λ k. get_or now k x) (sym same) in
        record {
          behind = omega (arith, i.behind);
          count = i.count;
          ahead = later_is;
          goes = passed now step (take_more now kept x here ∙ ap (λ z. take kept now ++ z ∷ []) (sym at));
        }

    pub retaining_swap : (b : Bool) → R q x b r → b ≡ true → kept ≢ row → Retaining p old (kept + 1) (row + 1) r (swap now kept row)
    retaining_swap b said passes other =
        let step : R q x true r = subst (λ v. R q x v r) passes said in
        let below : kept < row = omega (arith, i.behind, other) in
        let here : kept < length now = omega arith in
        let more : kept + 1 ≤ row = omega arith in
        let y : X = get_or now kept x in
        let new : List X = set (set now kept (get_or now row x)) row y in
        let new_is : new ≡ swap now kept row = swap_is now kept row x here lt in
        let front : take (kept + 1) new ≡ take kept now ++ x ∷ [] =
        take-set-le (kept + 1) (set now kept (get_or now row x)) row y more ∙ (take_more_set now kept (get_or now row x) here ∙ ap (λ z. take kept now ++ z ∷ []) (sym is)) in
        let back : drop (row + 1) new ≡ drop (row + 1) now =
        drop-set-lt (row + 1) (set now kept (get_or now row x)) row y (omega arith) ∙ drop-set-lt (row + 1) now kept (get_or now row x) (omega arith) in
        subst (Retaining p old (kept + 1) (row + 1) r) new_is (record {
          behind = omega (arith, i.behind);
          count = length-set (set now kept (get_or now row x)) row y ∙ (length-set now kept (get_or now row x) ∙ i.count);
          ahead = back ∙ later_is;
          goes = passed new step front;
        })

  -- once no row is ahead, those in front are what was kept
  pub retaining_all : (p q : P) (old : List X) (kept row : ℕ) (now : List X) → Retaining p old kept row q now → length old ≤ row → IsFiltered R p old (take kept now)
  retaining_all p q old kept row now i all =
      let none : drop row old ≡ [] = drop_all row old all in
      subst (IsFiltered R p old) (append-nil (take kept now)) (i.goes [] (subst (λ zs. IsFiltered R q zs []) (sym none) (filtered_none q)))

-- the rows after those that were kept are dropped
pub kept_only : {X : Type 0} (b : Bool) (kept rows : ℕ) (t new : List X) → IsTrue b ↔ (kept + (rows - kept) ≤ length t) → new ≡ (if b then take kept t ++ drop (kept + (rows - kept)) t else t) → kept ≤ rows → length t ≡ rows → new ≡ take kept t
kept_only true kept rows t new found is le count =
    is ∙ (ap (λ x. take kept t ++ x) (drop_all (kept + (rows - kept)) t (omega arith)) ∙ append-nil (take kept t))
kept_only false kept rows t new found is le count =
    let no : false ≡ true = found.1 (omega arith) in
    absurd (cc)
