-- Lines that are cut off a list one after another.
use Rattle.std.proofs.Common.{◌≡◌, ℕ, suc, ◌+◌, ◌/◌, ◌%◌, ◌<◌, ◌≤◌, min, List, [], ◌∷◌, ◌++◌, length, refl, ap, sym, ◌∙◌, arith, ℤ, length-append, mod-eq_of_lt, Vec}
use Rattle.grid_base.proofs.Common.{take-append_seam, drop-append_seam, add-mod_left, add-div_left, items_of_each}
use Rattle.grid_play.specs.Commands.{cut}

enough : (len n : ℕ) → 0 < n → n % len ≡ 0 → len ≤ n
enough len n some even =
    let small : n < len → n % len ≡ n = λ lt. mod-eq_of_lt lt in
    grind arith

-- one more line
cut_line : (len k : ℕ) (x rest : List ℤ) → length x ≡ len → cut (suc k) len (x ++ rest) ≡ x ∷ cut k len rest
cut_line len k x rest e = rw (sym e) (rw (take-append_seam, drop-append_seam) refl)

pub cut_next : (len : ℕ) (all x rest : List ℤ) → 0 < len → all ≡ x ++ rest → length x ≡ min len (length all) → 0 < length all → length all % len ≡ 0 → (cut (length all / len) len all ≡ x ∷ cut (length rest / len) len rest) × (length rest % len ≡ 0)
cut_next len all x rest some is short left even =
    let lens : length all ≡ length x + length rest = ap length is ∙ length-append x rest in
    let whole : length x ≡ len = grind (arith, enough len (length all) left even) in
    let sum : length all ≡ len + length rest = omega (arith, lens, whole) in
    let count : length all / len ≡ suc (length rest / len) = rw sum (omega (arith, add-div_left (length rest) some)) in
    (rw (count, is) (cut_line len _ x rest whole), sym (add-mod_left len (length rest)) ∙ (ap (λ n. n % len) (sym sum) ∙ even))

-- a line that is pushed is before those that are left
pub push_one : {A : Type 0} (ls : List (Vec ℤ A)) (new : List (Vec ℤ A)) (v : Vec ℤ A) (x : List ℤ) (all rest : List (List ℤ)) → all ≡ x ∷ rest → x ≡ v.items → new ≡ ls ++ v ∷ [] → items_of_each ls ++ all ≡ items_of_each new ++ rest
push_one [] new v x all rest e is pushed = rw (pushed, e, is) refl
push_one (l ∷ ls) new v x all rest e is pushed =
    rw pushed (ap (λ ts. l.items ∷ ts) (push_one ls (ls ++ v ∷ []) v x all rest e is refl))
