-- What a closure that may change comes to over cells.
use Rattle.std.proofs.Common.{◌≡◌, ℕ, ◌+◌, ◌-◌, ◌<◌, ◌≤◌, Option, None, Some, Bor, List, [], ◌∷◌, ◌++◌, length, map, refl, ◌∙◌, sym, ap, append_assoc, append-nil}
use Rattle.std.specs.Iterator.{CallableInFold, FoldTurn, Drains, Yields, YieldsFirstRef}
use Rattle.std.specs.List.{FoldsTo}
use Rattle.grid_base.proofs.Common.{concat_rows, row, remaining}
use Rattle.grid_base.proofs.RemainingLemmas.{remaining_first}
use Rattle.grid_view.specs.Folded.{GoesOver, CallableOver}
use denote.Param.Members.{Mut}

module _ {F B A : Type 0} (calls : Mut F (B × (Bor A × Unit {0})) B) where
  -- over two lists, one after the other
  pub goes_over_both : (p : F × B) (front : List A) (q : F × B) (rest : List A) (r : F × B) → GoesOver calls p front q → GoesOver calls q rest r → GoesOver calls p (front ++ rest) r
  goes_over_both p [] q rest r e more = rw e more
  goes_over_both p (x ∷ front) q rest r over more = (over.0, over.1, goes_over_both over.0 front q rest r over.2 more)

  -- the references at which it was called
  refs : (p : F × B) (cells : List A) (q : F × B) → GoesOver calls p cells q → (xs : List (Bor A)) × (map (λ b. b.now) xs ≡ cells) × FoldsTo (FoldTurn calls) p xs q
  refs p [] q over = ([], refl, over)
  refs p (x ∷ cells) q over =
      let more = refs over.0 cells q over.2 in
      (over.1.0 ∷ more.0, ap (λ y. y ∷ map (λ b. b.now) more.0) over.1.1 ∙ ap (λ ys. x ∷ ys) more.1, (over.0, over.1.2, more.2))

  over_refs : (p : F × B) (xs : List (Bor A)) (q : F × B) → FoldsTo (FoldTurn calls) p xs q → GoesOver calls p (map (λ b. b.now) xs) q
  over_refs p [] q folds = folds
  over_refs p (x ∷ xs) q folds = (folds.0, (x, refl, folds.1), over_refs folds.0 xs q folds.2)

  -- an iterator that gives references to the cells of a list
  yields : (xs : List (Bor A)) (cells rest : List A) → cells ≡ map (λ b. b.now) xs ++ rest → Yields (YieldsFirstRef (λ (s : List A). s)) cells xs rest
  yields [] cells rest e = e
  yields (x ∷ xs) cells rest e = (map (λ b. b.now) xs ++ rest, e, yields xs (map (λ b. b.now) xs ++ rest) rest refl)

  pub callable_over : (f : F) (init : B) (cells : List A) → CallableInFold (YieldsFirstRef (λ (s : List A). s)) calls cells f init → CallableOver calls (f, init) cells
  callable_over f init cells h = record {
    at = λ front b rest q e over.
        let r = refs (f, init) front q over in
        h.at r.0 (b.now ∷ rest) q b rest (yields r.0 cells (b.now ∷ rest) (e ∙ ap (λ k. k ++ b.now ∷ rest) (sym r.1))) r.2 refl;
  }

  pub goes_to : (p : F × B) (cells : List A) (q : F × B) → GoesOver calls p cells q → (xs : List (Bor A)) × Drains (YieldsFirstRef (λ (s : List A). s)) cells xs × FoldsTo (FoldTurn calls) p xs q
  goes_to p cells q over =
      let r = refs p cells q over in
      (r.0, ([], ([], yields r.0 cells [] (sym r.1 ∙ sym (append-nil (map (λ b. b.now) r.0))), (refl, refl))), r.2)

  -- the front of a list, and what comes after it
  pub callable_front : (p : F × B) (front rest : List A) → CallableOver calls p (front ++ rest) → CallableOver calls p front
  callable_front p front rest h = record {
    at = λ before b after q e over. h.at before b (after ++ rest) q (ap (λ k. k ++ rest) e ∙ append_assoc before (b.now ∷ after) rest) over;
  }

  pub callable_after : (p : F × B) (front rest : List A) (q : F × B) → GoesOver calls p front q → CallableOver calls p (front ++ rest) → CallableOver calls q rest
  callable_after p front rest q gone h = record {
    at = λ before b after r e over.
        h.at (front ++ before) b after r (ap (λ k. front ++ k) e ∙ sym (append_assoc front before (b.now ∷ after))) (goes_over_both p front q before r gone over);
  }

  -- the first of the rows that are left, and the others
  module _ (first past : ℕ) (rows : List (List A)) (lt : first < past) (le : past ≤ length rows) where
    parted : concat_rows (remaining first past rows) ≡ row rows first ++ concat_rows (remaining (first + 1) past rows)
    parted = ap concat_rows (remaining_first first past rows [] lt le)

    pub callable_row : (p : F × B) → CallableOver calls p (concat_rows (remaining first past rows)) → CallableOver calls p (row rows first)
    callable_row p h = callable_front p (row rows first) (concat_rows (remaining (first + 1) past rows)) (rw (← parted) h)

    pub callable_others : (p q : F × B) → GoesOver calls p (row rows first) q → CallableOver calls p (concat_rows (remaining first past rows)) → CallableOver calls q (concat_rows (remaining (first + 1) past rows))
    callable_others p q gone h = callable_after p (row rows first) (concat_rows (remaining (first + 1) past rows)) q gone (rw (← parted) h)

    pub goes_over_rows : (p q r : F × B) → GoesOver calls p (row rows first) q → GoesOver calls q (concat_rows (remaining (first + 1) past rows)) r → GoesOver calls p (concat_rows (remaining first past rows)) r
    goes_over_rows p q r gone more = rw parted (goes_over_both p (row rows first) q (concat_rows (remaining (first + 1) past rows)) r gone more)

  pub goes_over_none : (first past : ℕ) (rows : List (List A)) (p : F × B) → past - first ≡ 0 → GoesOver calls p (concat_rows (remaining first past rows)) p
  goes_over_none first past rows p e = rw e refl

  -- an iterator whose state shows the cells that are left
  module _ {S : Type 0} (steps : S → Option (Bor A) → S → Type 0) (left : S → List A) (some : (s : S) (x : Bor A) (t : S) → steps s (Some x) t → left s ≡ x.now ∷ left t) where
    given : (xs : List (Bor A)) (s t : S) → Yields steps s xs t → left s ≡ map (λ b. b.now) xs ++ left t
    given [] s t e = ap left e
    given (x ∷ xs) s t y = some s x y.0 y.1 ∙ ap (λ k. x.now ∷ k) (given xs y.0 t y.2)

    pub callable_in : (f : F) (init : B) (s : S) → CallableOver calls (f, init) (left s) → CallableInFold steps calls s f init
    callable_in f init s h = record {
      at = λ xs t q x u ys folds step.
          h.at (map (λ b. b.now) xs) x (left u) q (given xs s t ys ∙ ap (λ k. map (λ b. b.now) xs ++ k) (some t x u step)) (over_refs (f, init) xs q folds);
    }

    pub goes_over_left : (none : (s t : S) → steps s None t → left s ≡ []) (p : F × B) (s : S) (q : F × B) → (xs : List (Bor A)) × Drains steps s xs × FoldsTo (FoldTurn calls) p xs q → GoesOver calls p (left s) q
    goes_over_left none p s q h =
        let drained = h.1 in
        let ends = none drained.1.0 drained.0 drained.1.2 in
        let all : left s ≡ map (λ b. b.now) h.0 = given h.0 s drained.1.0 drained.1.1 ∙ (ap (λ k. map (λ b. b.now) h.0 ++ k) ends ∙ append-nil (map (λ b. b.now) h.0)) in
        rw all (over_refs p h.0 q h.2)
