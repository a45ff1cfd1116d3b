-- The positions of a straight line, one step after another.
use Rattle.std.proofs.Common.{◌≡◌, ℕ, zero, suc, ◌+◌, ◌-◌, ◌*◌, ◌/◌, ◌<◌, ◌≤◌, Bool, true, false, [], ◌∷◌, length, map, sym, ◌∙◌, ap, refl, arith, add-one, ⊎_elim}
use Rattle.std.specs.List.{range_with_len}
use Rattle.std.proofs.Math.Nat.{mul-le-mul_left}
use Rattle.std.proofs.lemmas.Nat.{div-mul-add}
use Rattle.std.proofs.lemmas.Bool.{cases_lt}
use Rattle.grid_rays.specs.Segments.{nearest, steps_between, point, segment}
use Rattle.grid_rays.specs.Drawn.{IsReached, IsDrawn, segment_from, segment_left}

-- a step up stays within the end
pub up_fits : (a b i l x past : ℕ) → 0 < l → IsReached a b i l x past → a ≤ b → i + l ≤ past + (b - a) → x < b
up_fits a b i zero x past some h le full = absurd (omega arith)
up_fits a b i (suc j) x past some h le full =
    ⊎_elim (λ (lt : x < b). lt) (λ (past_end : b ≤ x).
    let rows = mul-le-mul_left (i + suc j) past_end in
    let parts : suc j * b ≡ suc j * a + suc j * (b - a) = ap (λ n. suc j * n) whole ∙ omega arith in
    absurd (omega (arith, rows, parts, h.sum)))
    (cases_lt x b)
  where
    whole : b ≡ a + (b - a)
    whole = omega arith

-- a step down has a number before it
pub down_some : (a b i l x past : ℕ) → 0 < l → IsReached a b i l x past → past < a - b → 0 < x
down_some a b i zero x past some h less = absurd (omega arith)
down_some a b i (suc j) zero past some h less = absurd (omega (arith, h.sum))
down_some a b i (suc j) (suc y) past some h less = omega arith

down_to : (a b i j y past : ℕ) → IsReached a b i (suc j) (suc y) past → past < a - b → a - b ≤ i + suc j → IsReached a b (i + 1) j y (past + (i + suc j - (a - b)))
down_to a b i j y past h less near = record {
  sum = omega (arith, h.sum);
  below = λ _. omega arith;
  still = λ e. absurd (omega arith);
}

pub stepped_down : (a b i l x past : ℕ) → 0 < l → IsReached a b i l x past → past < a - b → a - b ≤ i + l → IsReached a b (i + 1) (l - 1) (x - 1) (past + (i + l - (a - b)))
stepped_down a b i zero x past some h less near = absurd (omega arith)
stepped_down a b i (suc j) zero past some h less near = absurd (omega (arith, down_some a b i (suc j) 0 past some h less))
stepped_down a b i (suc j) (suc y) past some h less near =
    let left : suc j - 1 ≡ j = omega arith in
    let before : suc y - 1 ≡ y = omega arith in
    rw (left, before) (down_to a b i j y past h less near)

-- what is reached is the nearest
pub nearest_is : (a b i j x past : ℕ) → IsReached a b i j x past → nearest a b i j ≡ x
nearest_is a b zero zero x past h = sym (h.still refl)
nearest_is a b zero (suc j) x past h =
    sym (div-mul-add a (suc j) (suc j / 2) (omega arith))
    ∙ (ap (λ m. m / suc j) same ∙ div-mul-add x (suc j) past (omega (arith, h.below (omega arith))))
  where
    same : a * suc j + suc j / 2 ≡ x * suc j + past
    same = omega (arith, h.sum)
nearest_is a b (suc i) j x past h =
    ap (λ m. m / (suc i + j)) same ∙ div-mul-add x (suc i + j) past (h.below (omega arith))
  where
    same : j * a + suc i * b + (suc i + j) / 2 ≡ x * (suc i + j) + past
    same = omega (arith, h.sum)

-- the position that a line has come to is the first that is left, and the last
pub reached_at : (a b at past : ℕ × ℕ) (i j : ℕ) → IsDrawn a b at past i j → point a b i j ≡ at
reached_at a b at past i j h =
    let row = nearest_is a.0 b.0 i j at.0 past.0 h.rows in
    let col = nearest_is a.1 b.1 i j at.1 past.1 h.cols in
    ap (λ r. (r, nearest a.1 b.1 i j)) row ∙ ap (λ c. (at.0, c)) col

pub given_last : (ended : Bool) (a b at past : ℕ × ℕ) (i j : ℕ) → IsDrawn a b at past i j → ended ≡ false → j ≡ 0 → segment_left ended a b i j ≡ at ∷ []
given_last true a b at past i j h e none = absurd (cc)
given_last false a b at past i zero h e none = ap (λ p. p ∷ []) (reached_at a b at past i 0 h)
given_last false a b at past i (suc j) h e none = absurd (omega arith)

pub given_next : (ended : Bool) (a b at past : ℕ × ℕ) (i j : ℕ) → IsDrawn a b at past i j → ended ≡ false → 0 < j → segment_left ended a b i j ≡ at ∷ segment_left ended a b (i + 1) (j - 1)
given_next true a b at past i j h e some = absurd (cc)
given_next false a b at past i zero h e some = absurd (omega arith)
given_next false a b at past i (suc j) h e some =
    let left : j ≡ suc j - 1 = omega arith in
    ap (λ p. p ∷ segment_from a b (i + 1) j) (reached_at a b at past i (suc j) h)
    ∙ ap (λ l. at ∷ segment_from a b (i + 1) l) left

length-from : (a b : ℕ × ℕ) (i j : ℕ) → length (segment_from a b i j) ≡ j + 1
length-from a b i zero = omega arith
length-from a b i (suc j) = omega (arith, length-from a b (i + 1) j)

pub length-left : (ended : Bool) (a b : ℕ × ℕ) (i j : ℕ) → ended ≡ false → length (segment_left ended a b i j) ≡ j + 1
length-left true a b i j e = absurd (cc)
length-left false a b i j e = length-from a b i j

-- the positions from a step on, and all of them
from_is : (a b : ℕ × ℕ) (n i j : ℕ) → i + j ≡ n → segment_from a b i j ≡ map (λ k. point a b k (n - k)) (range_with_len i (suc j))
from_is a b n i zero e =
    let last : 0 ≡ n - i = omega arith in ap (λ j. point a b i j ∷ []) last
from_is a b n i (suc j) e =
    let left : suc j ≡ n - i = omega arith in
    ap (λ l. point a b i l ∷ segment_from a b (i + 1) j) left
    ∙ ap (λ rest. point a b i (n - i) ∷ rest) (from_is a b n (i + 1) j (omega arith))

pub segment_is : (a b : ℕ × ℕ) → segment_from a b 0 (steps_between a b) ≡ segment a b
segment_is a b =
    from_is a b (steps_between a b) 0 (steps_between a b) (omega arith)
    ∙ ap (λ k. map (λ i. point a b i (steps_between a b - i)) (range_with_len 0 k)) (sym (add-one (steps_between a b)))
