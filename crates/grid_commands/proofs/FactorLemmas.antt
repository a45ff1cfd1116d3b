-- Products that are small, and products that are too large.
use Rattle.std.proofs.Common.{◌≡◌, ℕ, zero, suc, ◌*◌, ◌^◌, ◌<◌, ◌≤◌, not, nat_eq, sym, arith, ⊎_elim, lt-ltb, le-ltb, ne_eqb, mul-le-mul_right}
use Rattle.std.proofs.lemmas.Bool.{cases_lt}
use Rattle.grid_commands.specs.Refusal.{exceeds}

-- a product that is small has small factors
pub factor_small : (x y : ℕ) → 0 < y → x * y < 2 ^ 64 → x < 2 ^ 64
factor_small x y some small = let le : x * 1 ≤ x * y = times 1 y some in omega (arith, small, le)
  where
    times : (a b : ℕ) → a ≤ b → x * a ≤ x * b
    times a b le = grind (arith, mul-le-mul_right x le)

-- lines of some width that are too many alone have too many cells
pub many_lines : (total width : ℕ) → 2 ^ 64 ≤ total → not (nat_eq width 0) ≡ exceeds (total * width)
many_lines total zero h = sym (le-ltb 18446744073709551615 (total * 0) (omega arith))
many_lines total (suc width) h =
    ⊎_elim {C = not (nat_eq (suc width) 0) ≡ exceeds (total * suc width)}
    (λ lt. rw (ne_eqb (suc width) 0 (λ e. omega (arith, e))) (sym (lt-ltb 18446744073709551615 (total * suc width) lt)))
    (λ le. absurd (omega (arith, h, factor_small total (suc width) (omega arith) (omega (arith, le)))))
    (cases_lt 18446744073709551615 (total * suc width))
