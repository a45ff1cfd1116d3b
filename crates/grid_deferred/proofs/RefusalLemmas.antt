-- Refusals of edits through the flips.
use Rattle.std.proofs.Common.{◌≡◌, ℕ, zero, suc, ◌+◌, ◌-◌, ◌*◌, ◌<◌, Bool, true, false, not, ◌&&◌, ◌||◌, Some, None, List, [], ◌∷◌, length, map, reverse, nat_eq, nat_lt, if◌then◌else◌, refl, sym, ◌∙◌, ap, arith, ⊎_elim, eqb-true, lt-ltb, le-ltb}
use Rattle.grid_deferred.proofs.Common.{and_comm, or_comm, and-true, or-false, list_any, list_all, length-reverse, length-map, reverse-append, reverse-reverse, get_or-reverse, list_all-append, list_any-append, cases_Bool, cases_lt, both_ways, false_from_ne_true, row, Edit, read, push, insert_at, insert_all, first_width, fitting_width, lines_refusal, edit_refusal, all-at, fitting-some, mirrored_insertion, edit_of_flipped, edit_of_reversed}
use Rattle.grid_commands.specs.declared.command.Refusal.TheVariants.{EmptyLine, Length, Index, TooLarge}

module _ {X : Type 0} (p : X → Bool) where
  pub list_all-reverse : (xs : List X) → list_all p (reverse xs) ≡ list_all p xs
  list_all-reverse [] = refl
  list_all-reverse (x ∷ xs) =
      ap (list_all p) (reverse-append (x ∷ []) xs)
      ∙ (list_all-append p (reverse xs) (x ∷ [])
      ∙ (ap (λ b. list_all p (reverse xs) && b) (and-true (p x))
      ∙ (ap (λ b. b && p x) (list_all-reverse xs) ∙ and_comm (list_all p xs) (p x))))

  pub list_any-reverse : (xs : List X) → list_any p (reverse xs) ≡ list_any p xs
  list_any-reverse [] = refl
  list_any-reverse (x ∷ xs) =
      ap (list_any p) (reverse-append (x ∷ []) xs)
      ∙ (list_any-append p (reverse xs) (x ∷ [])
      ∙ (ap (λ b. list_any p (reverse xs) || b) (or-false (p x))
      ∙ (ap (λ b. b || p x) (list_any-reverse xs) ∙ or_comm (list_any p xs) (p x))))

same_tests : (a b e f x y z w : Bool) → a ≡ b → e ≡ f → x ≡ y → (f ≡ true → z ≡ w) → (if a then Some EmptyLine else (if not e then Some Length else (if x then Some Index else (if z then Some TooLarge else None)))) ≡ (if b then Some EmptyLine else (if not f then Some Length else (if y then Some Index else (if w then Some TooLarge else None))))
same_tests a b e true x y z w p q r s = rw (p, q, r, s refl) refl
same_tests a b e false x y z w p q r s = rw (p, q) refl

gap_past : (count i : ℕ) → nat_lt count (mirrored_insertion count i) ≡ nat_lt count i
gap_past count i =
    ⊎_elim (λ lt. rw (lt-ltb count i lt) (lt-ltb count i lt))
    (λ le. rw (le-ltb count i le) (le-ltb count (count - i) (omega arith)))
    (cases_lt count i)

gap_end : (count : ℕ) → mirrored_insertion count count ≡ 0
gap_end count = rw (le-ltb count count (omega arith)) (omega arith)

module _ {T : Type 0} where
  abbrev is_wide : ℕ → List T → Bool
  is_wide w l = nat_eq (length l) w

  -- lines of one length have that of the last
  last_wide : (ls : List (List T)) (w : ℕ) → list_all (is_wide w) ls ≡ true → 0 < length ls → first_width (reverse ls) ≡ w
  last_wide ls w e some =
      ap length (get_or-reverse ls 0 [] some)
      ∙ eqb-true (length (row ls (length ls - 1 - 0))) w (all-at (is_wide w) ls (length ls - 1 - 0) e (omega arith))

  same_width : (ls : List (List T)) → list_all (is_wide (first_width ls)) ls ≡ true → first_width (reverse ls) ≡ first_width ls
  same_width [] e = refl
  same_width (l ∷ ls) e = last_wide (l ∷ ls) (length l) e (omega arith)

  fitting-reverse : (count width : ℕ) (ls : List (List T)) → list_all (is_wide (fitting_width count width ls)) ls ≡ true → fitting_width count width (reverse ls) ≡ fitting_width count width ls
  fitting-reverse zero width ls e = same_width ls e
  fitting-reverse (suc count) width ls e = fitting-some (suc count) width (reverse ls) (omega arith) ∙ sym (fitting-some (suc count) width ls (omega arith))

  even-reverse : (count width : ℕ) (ls : List (List T)) → list_all (is_wide (fitting_width count width (reverse ls))) (reverse ls) ≡ list_all (is_wide (fitting_width count width ls)) ls
  even-reverse count width ls =
      let same : fitting_width count width (reverse ls) ≡ fitting_width count width ls → list_all (is_wide (fitting_width count width (reverse ls))) (reverse ls) ≡ list_all (is_wide (fitting_width count width ls)) ls =
      λ e. ap (λ w. list_all (is_wide w) (reverse ls)) e ∙ list_all-reverse (is_wide (fitting_width count width ls)) ls in
      ⊎_elim (λ e. same (fitting-reverse count width ls e))
      (λ e.
      false_from_ne_true _ (λ k.
      let back : fitting_width count width ls ≡ fitting_width count width (reverse ls) =
      ap (fitting_width count width) (sym (reverse-reverse ls)) ∙ fitting-reverse count width (reverse ls) k in
      both_ways _ e (sym (same (sym back)) ∙ k))
      ∙ sym e)
      (cases_Bool (list_all (is_wide (fitting_width count width ls)) ls))

  pub lines_refusal-flipped : (count width i : ℕ) (ls : List (List T)) → lines_refusal count width (mirrored_insertion count i) (reverse ls) ≡ lines_refusal count width i ls
  lines_refusal-flipped count width i ls =
      same_tests _ _ _ _ _ _ _ _
      (list_any-reverse (λ l. nat_eq (length l) 0) ls)
      (even-reverse count width ls)
      (gap_past count i)
      (λ e. ap (λ k. nat_lt 18446744073709551615 ((count + k) * fitting_width count width (reverse ls))) (length-reverse ls)
      ∙ ap (λ w. nat_lt 18446744073709551615 ((count + length ls) * w)) (fitting-reverse count width ls e))

  any-reversed_lines : (w : ℕ) (ls : List (List T)) → list_any (is_wide w) (map reverse ls) ≡ list_any (is_wide w) ls
  any-reversed_lines w [] = refl
  any-reversed_lines w (l ∷ ls) = ap (λ n. nat_eq n w || list_any (is_wide w) (map reverse ls)) (length-reverse l) ∙ ap (λ b. is_wide w l || b) (any-reversed_lines w ls)

  all-reversed_lines : (w : ℕ) (ls : List (List T)) → list_all (is_wide w) (map reverse ls) ≡ list_all (is_wide w) ls
  all-reversed_lines w [] = refl
  all-reversed_lines w (l ∷ ls) = ap (λ n. nat_eq n w && list_all (is_wide w) (map reverse ls)) (length-reverse l) ∙ ap (λ b. is_wide w l && b) (all-reversed_lines w ls)

  fitting-reversed_lines : (count width : ℕ) (ls : List (List T)) → fitting_width count width (map reverse ls) ≡ fitting_width count width ls
  fitting-reversed_lines zero width [] = refl
  fitting-reversed_lines zero width (l ∷ ls) = length-reverse l
  fitting-reversed_lines (suc count) width ls = fitting-some (suc count) width (map reverse ls) (omega arith) ∙ sym (fitting-some (suc count) width ls (omega arith))

  pub lines_refusal-reversed_lines : (count width i : ℕ) (ls : List (List T)) → lines_refusal count width i (map reverse ls) ≡ lines_refusal count width i ls
  lines_refusal-reversed_lines count width i ls =
      same_tests _ _ _ _ _ _ _ _
      (any-reversed_lines 0 ls)
      (ap (λ w. list_all (is_wide w) (map reverse ls)) (fitting-reversed_lines count width ls) ∙ all-reversed_lines (fitting_width count width ls) ls)
      refl
      (λ e. ap (λ k. nat_lt 18446744073709551615 ((count + k) * fitting_width count width (map reverse ls))) (length-map ls reverse)
      ∙ ap (λ w. nat_lt 18446744073709551615 ((count + length ls) * w)) (fitting-reversed_lines count width ls))

  -- an edit of flipped lines is refused where the edit is
  pub command_refusal-edit_of_flipped : (count width : ℕ) (e : Edit T) → edit_refusal count width (edit_of_flipped count e) ≡ edit_refusal count width e
  command_refusal-edit_of_flipped count width (push line) = ap (λ i. lines_refusal count width i (line ∷ [])) (sym (gap_end count)) ∙ lines_refusal-flipped count width count (line ∷ [])
  command_refusal-edit_of_flipped count width (insert_at i line) = lines_refusal-flipped count width i (line ∷ [])
  command_refusal-edit_of_flipped count width (insert_all i ls) = lines_refusal-flipped count width i ls
  command_refusal-edit_of_flipped count width (read i) = refl
  command_refusal-edit_of_flipped count width e = refl

  pub command_refusal-edit_of_reversed : (count width : ℕ) (e : Edit T) → edit_refusal count width (edit_of_reversed e) ≡ edit_refusal count width e
  command_refusal-edit_of_reversed count width (push line) = lines_refusal-reversed_lines count width count (line ∷ [])
  command_refusal-edit_of_reversed count width (insert_at i line) = lines_refusal-reversed_lines count width i (line ∷ [])
  command_refusal-edit_of_reversed count width (insert_all i ls) = lines_refusal-reversed_lines count width i ls
  command_refusal-edit_of_reversed count width (read i) = refl
  command_refusal-edit_of_reversed count width e = refl
