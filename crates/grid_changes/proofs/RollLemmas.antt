-- A list that is rolled, changed at its end, and rolled back: a part is put before a place, or taken out.
use Rattle.std.proofs.Common.{◌≡◌, ℕ, ◌+◌, ◌-◌, ◌≤◌, List, ◌++◌, length, take, drop, sym, ◌∙◌, ap, arith, append_assoc, length-append, length-drop, take-append-drop, length-take-le}
use Rattle.std.proofs.Math.Seq.{take-append_seam, drop-append_seam}
use Rattle.std.proofs.lemmas.List.{drop-drop}

module _ {X : Type 0} where
  -- a list that is cut at its seam
  pub take_seam : (n : ℕ) (xs ys : List X) → n ≡ length xs → take n (xs ++ ys) ≡ xs
  take_seam n xs ys e = ap (λ k. take k (xs ++ ys)) e ∙ take-append_seam xs ys

  drop_seam : (n : ℕ) (xs ys : List X) → n ≡ length xs → drop n (xs ++ ys) ≡ ys
  drop_seam n xs ys e = ap (λ k. drop k (xs ++ ys)) e ∙ drop-append_seam xs ys

  -- a list that is rolled at its seam
  rolled_seam : (n : ℕ) (xs ys all : List X) → n ≡ length xs → all ≡ xs ++ ys → drop n all ++ take n all ≡ ys ++ xs
  rolled_seam n xs ys all e is =
      ap (λ v. drop n v ++ take n v) is ∙ (ap (λ v. v ++ take n (xs ++ ys)) (drop_seam n xs ys e) ∙ ap (λ v. ys ++ v) (take_seam n xs ys e))

  module _ (i k : ℕ) (xs : List X) (le : i + k ≤ length xs) where
    -- a list in three parts
    three_parts : take i xs ++ (take k (drop i xs) ++ drop (i + k) xs) ≡ xs
    three_parts =
        ap (λ v. take i xs ++ (take k (drop i xs) ++ v)) (sym (drop-drop k i xs))
        ∙ (ap (λ v. take i xs ++ v) (take-append-drop k (drop i xs)) ∙ take-append-drop i xs)

    in_front : length (take i xs) ≡ i
    in_front = length-take-le i xs (omega (arith, le))

    in_middle : length (take k (drop i xs)) ≡ k
    in_middle = length-take-le k (drop i xs) (omega (arith, le, length-drop i xs))

    -- the part between is rolled to the end
    rolled_between : (rolled : List X) → rolled ≡ drop (i + k) xs ++ take (i + k) xs → rolled ≡ (drop (i + k) xs ++ take i xs) ++ take k (drop i xs)
    rolled_between rolled first =
        first
        ∙ (rolled_seam (i + k) (take i xs ++ take k (drop i xs)) (drop (i + k) xs) xs
        (sym (length-append (take i xs) (take k (drop i xs)) ∙ omega (arith, in_front, in_middle)))
        (sym three_parts ∙ sym (append_assoc (take i xs) (take k (drop i xs)) (drop (i + k) xs)))
        ∙ sym (append_assoc (drop (i + k) xs) (take i xs) (take k (drop i xs))))

    behind_and_front : (rest : ℕ) → rest + k ≡ length xs → rest ≡ length (drop (i + k) xs ++ take i xs)
    behind_and_front rest e = omega (arith, e, le, length-append (drop (i + k) xs) (take i xs), length-drop (i + k) xs, in_front)

    -- the part between, which is split off there
    pub split_part : (rest : ℕ) (rolled : List X) → rest + k ≡ length xs → rolled ≡ drop (i + k) xs ++ take (i + k) xs → drop rest rolled ≡ take k (drop i xs)
    split_part rest rolled e first =
        ap (drop rest) (rolled_between rolled first)
        ∙ drop_seam rest (drop (i + k) xs ++ take i xs) (take k (drop i xs)) (behind_and_front rest e)

    -- and what is left, rolled back
    pub left_back : (rest behind : ℕ) (rolled cut new : List X) → rest + k ≡ length xs → behind ≡ rest - i → rolled ≡ drop (i + k) xs ++ take (i + k) xs → cut ≡ take rest rolled → new ≡ drop behind cut ++ take behind cut → new ≡ take i xs ++ drop (i + k) xs
    left_back rest behind rolled cut new e b first less last =
        last
        ∙ rolled_seam behind (drop (i + k) xs) (take i xs) cut (omega (arith, e, b, le, length-drop (i + k) xs))
        (less ∙ (ap (take rest) (rolled_between rolled first) ∙ take_seam rest (drop (i + k) xs ++ take i xs) (take k (drop i xs)) (behind_and_front rest e)))

    -- where nothing was split off, the list is as it was
    pub none_left : (rest behind : ℕ) (rolled new : List X) → rest + k ≡ length xs → behind ≡ rest - i → rolled ≡ drop (i + k) xs ++ take (i + k) xs → new ≡ drop behind rolled ++ take behind rolled → new ≡ xs
    none_left rest behind rolled new e b first last =
        last
        ∙ (rolled_seam behind (drop (i + k) xs) (take (i + k) xs) rolled (omega (arith, e, b, le, length-drop (i + k) xs)) first
        ∙ take-append-drop (i + k) xs)

    -- the part put back where it was
    pub part_back : take i (take i xs ++ drop (i + k) xs) ++ take k (drop i xs) ++ drop i (take i xs ++ drop (i + k) xs) ≡ xs
    part_back =
        ap (λ v. v ++ take k (drop i xs) ++ drop i (take i xs ++ drop (i + k) xs)) (take_seam i (take i xs) (drop (i + k) xs) (sym in_front))
        ∙ (ap (λ v. take i xs ++ take k (drop i xs) ++ v) (drop_seam i (take i xs) (drop (i + k) xs) (sym in_front))
        ∙ (append_assoc (take i xs) (take k (drop i xs)) (drop (i + k) xs) ∙ three_parts))

  module _ (i behind : ℕ) (xs : List X) (le : i ≤ length xs) (e : behind ≡ length xs - i) where
    -- rolled to a place, appended to, and rolled back
    pub put_back : (ys rolled grown new : List X) → rolled ≡ drop i xs ++ take i xs → grown ≡ rolled ++ ys → new ≡ drop behind grown ++ take behind grown → new ≡ take i xs ++ ys ++ drop i xs
    put_back ys rolled grown new first more last =
        last
        ∙ rolled_seam behind (drop i xs) (take i xs ++ ys) grown (omega (arith, e, length-drop i xs))
        (more ∙ (ap (λ v. v ++ ys) first ∙ append_assoc (drop i xs) (take i xs) ys))

    -- rolled to a place, and rolled back
    pub back_again : (rolled new : List X) → rolled ≡ drop i xs ++ take i xs → new ≡ drop behind rolled ++ take behind rolled → new ≡ xs
    back_again rolled new first last =
        last ∙ (rolled_seam behind (drop i xs) (take i xs) rolled (omega (arith, e, length-drop i xs)) first ∙ take-append-drop i xs)

  -- a part that was put in is taken out again, and is what was put in
  module _ (i k : ℕ) (xs ys : List X) (le : i ≤ length xs) (e : k ≡ length ys) where
    in_front_of : length (take i xs) ≡ i
    in_front_of = length-take-le i xs le

    pub out_again : take i (take i xs ++ ys ++ drop i xs) ++ drop (i + k) (take i xs ++ ys ++ drop i xs) ≡ xs
    out_again =
        ap (λ v. v ++ drop (i + k) (take i xs ++ ys ++ drop i xs))
        (ap (take i) (append_assoc (take i xs) ys (drop i xs)) ∙ take_seam i (take i xs) (ys ++ drop i xs) (sym in_front_of))
        ∙ (ap (λ v. take i xs ++ v)
        (drop_seam (i + k) (take i xs ++ ys) (drop i xs) (omega (arith, e, in_front_of, length-append (take i xs) ys)))
        ∙ take-append-drop i xs)

    pub length_put : length (take i xs ++ ys ++ drop i xs) ≡ length xs + k
    length_put = omega (arith, e, le, length-append (take i xs ++ ys) (drop i xs), length-append (take i xs) ys, in_front_of, length-drop i xs)
