-- A square of cells that is transposed part by part.
use Rattle.std.proofs.Common.{◌≡◌, ℕ, ◌+◌, ◌*◌, ◌/◌, ◌<◌, ◌≤◌, List, length, sym, ◌∙◌, ap, arith, ⊎_elim, swap}
use Rattle.grid_base.proofs.Common.{div-mul-add, length-swap, cases_lt, Mirrored}
use Rattle.grid_base.proofs.WeaveLemmas.{place_below}
use Rattle.grid_base.proofs.SwapLemmas.{get-swap_first, get-swap_second, get-swap_other}

-- a place has one row and one column
same_row : (n i j k l : ℕ) → j < n → l < n → i * n + j ≡ k * n + l → i ≡ k
same_row n i j k l lj ll e = sym (div-mul-add i n j lj) ∙ (ap (λ x. x / n) e ∙ div-mul-add k n l ll)

same_col : (n i j k l : ℕ) → j < n → l < n → i * n + j ≡ k * n + l → j ≡ l
same_col n i j k l lj ll e = let h = ap (λ x. x * n) (same_row n i j k l lj ll e) in omega arith

-- one cell
pub mirrored_one : {T : Type 0} (n i j : ℕ) (old new : List T) → length old ≡ n * n → i < j → j < n → new ≡ swap old (i * n + j) (j * n + i) → Mirrored n i (i + 1) j (j + 1) old new
mirrored_one n i j old new len above within e =
    let p : i * n + j < length old = omega (arith, place_below i n j n (omega arith) within) in
    let q : j * n + i < length old = omega (arith, place_below j n i n within (omega arith)) in
    rw e
    (record {
      lengths = length-swap old _ _;
      above = λ x y a b c d.
          let ex : x ≡ i = omega arith in
          let ey : y ≡ j = omega arith in
          rw ex (rw ey (get-swap_first old _ _ p q));
      below = λ x y a b c d.
          let ex : x ≡ i = omega arith in
          let ey : y ≡ j = omega arith in
          rw ex (rw ey (get-swap_second old _ _ p q));
      others = λ x y lx ly no nor.
          get-swap_other old _ _ (x * n + y) p q
          (λ e. let ex = same_row n x y i j ly within e in let ey = same_col n x y i j ly within e in absurd (no (omega arith) (omega arith) (omega arith) (omega arith)))
          (λ e. let ex = same_row n x y j i ly (omega arith) e in let ey = same_col n x y j i ly (omega arith) e in absurd (nor (omega arith) (omega arith) (omega arith) (omega arith)));
    })

-- two parts side by side
pub mirrored_beside : {T : Type 0} (n t b l m r : ℕ) (old mid new : List T) → b ≤ l → l ≤ m → m ≤ r → r ≤ n → Mirrored n t b l m old mid → Mirrored n t b m r mid new → Mirrored n t b l r old new
mirrored_beside n t b l m r old mid new bl lm mr rn h k =
    record {
      lengths = k.lengths ∙ h.lengths;
      above = λ i j a c d e.
          ⊎_elim (λ lt. k.others i j (omega arith) (omega arith) (λ _ _ z _. omega arith) (λ _ z _ _. omega arith) ∙ h.above i j a c d lt)
          (λ ge. k.above i j a c ge e ∙ h.others j i (omega arith) (omega arith) (λ _ z _ _. omega arith) (λ _ _ _ z. omega arith)) (cases_lt j m);
      below = λ i j a c d e.
          ⊎_elim (λ lt. k.others j i (omega arith) (omega arith) (λ _ z _ _. omega arith) (λ _ _ z _. omega arith) ∙ h.below i j a c d lt)
          (λ ge. k.below i j a c ge e ∙ h.others i j (omega arith) (omega arith) (λ _ _ _ z. omega arith) (λ _ z _ _. omega arith)) (cases_lt j m);
      others = λ i j li lj no nor.
          k.others i j li lj (λ a c d e. no a c (omega arith) e) (λ a c d e. nor a c (omega arith) e)
          ∙ h.others i j li lj (λ a c d e. no a c d (omega arith)) (λ a c d e. nor a c d (omega arith));
    }

-- two parts, one below the other
pub mirrored_below : {T : Type 0} (n t m b l r : ℕ) (old mid new : List T) → t ≤ m → m ≤ b → b ≤ l → r ≤ n → Mirrored n t m l r old mid → Mirrored n m b l r mid new → Mirrored n t b l r old new
mirrored_below n t m b l r old mid new tm mb bl rn h k =
    record {
      lengths = k.lengths ∙ h.lengths;
      above = λ i j a c d e.
          ⊎_elim (λ lt. k.others i j (omega arith) (omega arith) (λ z _ _ _. omega arith) (λ _ z _ _. omega arith) ∙ h.above i j a lt d e)
          (λ ge. k.above i j ge c d e ∙ h.others j i (omega arith) (omega arith) (λ _ z _ _. omega arith) (λ _ z _ _. omega arith)) (cases_lt i m);
      below = λ i j a c d e.
          ⊎_elim (λ lt. k.others j i (omega arith) (omega arith) (λ _ z _ _. omega arith) (λ z _ _ _. omega arith) ∙ h.below i j a lt d e)
          (λ ge. k.below i j ge c d e ∙ h.others i j (omega arith) (omega arith) (λ _ z _ _. omega arith) (λ _ z _ _. omega arith)) (cases_lt i m);
      others = λ i j li lj no nor.
          k.others i j li lj (λ a c d e. no (omega arith) c d e) (λ a c d e. nor (omega arith) c d e)
          ∙ h.others i j li lj (λ a c d e. no a (omega arith) d e) (λ a c d e. nor a (omega arith) d e);
    }
