-- The sum of a part is within that many numbers of 64 bits, so its mean is one.
use Rattle.std.proofs.Common.{◌≡◌, ℕ, zero, suc, ◌+◌, ◌*◌, ◌/◌, ◌<◌, ◌≤◌, ◌^◌, List, Some, map, sym, subst, ap, arith}
use Rattle.std.specs.List.{fold, range_with_len}
use lib.IntN.{ℤ, pos, negsuc, ◌+ℤ◌, ◌*ℤ◌, neg_ℤ}
use lib.Signed.{◌<ℤ◌, mag}
use Rattle.std.specs.Int.{int_div_euclid}
use Rattle.std.proofs.lemmas.Int.{ints}
use Rattle.std.proofs.lemmas.Nat.{div_below}
use Rattle.std.proofs.lemmas.Simd.{map-map}
use Rattle.grid_base.proofs.Common.{tabulate, cells_by}
use Rattle.grid_view.specs.View.{sub_table}
use Rattle.grid_sums.proofs.SumLemmas.{cells_of, part_is}
use Rattle.grid_sums.specs.Numbers.{list_sum, table_sum, IsMean}
use Rattle.grid_sums.specs.Corners.{growth, numbers_of, IsWithin}

within_from : (g : ℕ → ℤ) (a n k m : ℕ) (z : ℤ) → IsWithin z m → ((j : ℕ) → a ≤ j → j < a + n → IsWithin (g j) k) → IsWithin (fold ◌+ℤ◌ z (map g (range_with_len a n))) (m + n * k)
within_from g a zero k m z h all =
    let e : m ≡ m + 0 * k = omega arith in
    subst (IsWithin z) e h
within_from g a (suc n) k m z h all =
    let first = all a (omega arith) (omega arith) in
    let next : IsWithin (z +ℤ g a) (m + k) = record { low = omega (arith, ints, h.low, first.low); high = omega (arith, ints, h.high, first.high) } in
    let e : m + k + n * k ≡ m + suc n * k = omega arith in
    subst (IsWithin _) e (within_from g (a + 1) n k (m + k) (z +ℤ g a) next (λ j lo hi. all j (omega arith) (omega arith)))

within_list : (g : ℕ → ℤ) (n k : ℕ) → ((j : ℕ) → j < n → IsWithin (g j) k) → IsWithin (list_sum (map g (range_with_len 0 n))) (n * k)
within_list g n k all =
    let e : 0 + n * k ≡ n * k = omega arith in
    subst (IsWithin _) e (within_from g 0 n k 0 (pos 0) (record { low = omega (arith, ints); high = omega (arith, ints) }) (λ j lo hi. all j (omega arith)))

within_row : (g : ℕ → ℤ) (n : ℕ) → ((j : ℕ) → j < n → IsWithin (g j) 1) → IsWithin (list_sum (cells_by n (λ c. Some (g c)))) n
within_row g n all =
    let e : n * 1 ≡ n = omega arith in
    subst (λ zs. IsWithin (list_sum zs) n) (sym (cells_of n g)) (subst (IsWithin _) e (within_list g n 1 all))

within_table : (g : ℕ → ℕ → ℤ) (h n : ℕ) → ((r c : ℕ) → r < h → c < n → IsWithin (g r c) 1) → IsWithin (table_sum (tabulate h n (λ r c. Some (g r c)))) (h * n)
unfolding tabulate
within_table g h n all =
    let same = ap list_sum (map-map list_sum (λ r. cells_by n (λ c. Some (g r c))) (range_with_len 0 h)) in
    subst (λ z. IsWithin z (h * n)) (sym same) (within_list (λ r. list_sum (cells_by n (λ c. Some (g r c)))) h n (λ r lr. within_row (g r) n (λ c lc. all r c lr lc)))

pub within_part : (m n : ℕ) (sums : List ℤ) (from size : ℕ × ℕ) → ((r c : ℕ) → r < m → c < n → IsWithin (growth (n + 1) sums r c) 1) → from.0 + size.0 ≤ m → from.1 + size.1 ≤ n → IsWithin (table_sum (sub_table (numbers_of m n sums) from size)) (size.0 * size.1)
within_part m n sums from size all rows cols =
    subst (λ t. IsWithin (table_sum t) (size.0 * size.1)) (sym (part_is m n sums from size rows cols))
    (within_table (λ r c. growth (n + 1) sums (from.0 + r) (from.1 + c)) size.0 size.1 (λ r c lr lc. all (from.0 + r) (from.1 + c) (omega arith) (omega arith)))

pub mean_fits : (z : ℤ) (n : ℕ) → 0 < n → IsWithin z n → mag (int_div_euclid z (pos n)) < 2 ^ 63
mean_fits (pos a) n lt h = div_below a n (2 ^ 63) lt (omega (arith, ints, h.high))
mean_fits (negsuc a) n lt h = div_below a n (2 ^ 63) lt (omega (arith, ints, h.low))

neg_mul : (q n : ℕ) → neg_ℤ (pos q) *ℤ pos n ≡ neg_ℤ (pos (q * n))
neg_mul zero n = let e : zero * n ≡ zero = omega arith in rw e (omega (arith, ints))
neg_mul (suc q) n = omega (arith, ints)

pub mean_is : (z : ℤ) (n : ℕ) → 0 < n → IsMean z n (int_div_euclid z (pos n))
mean_is (pos a) n lt = record { reaches = omega (arith, ints); nearest = omega (arith, ints) }
mean_is (negsuc a) n lt =
    let e : negsuc (a / n) +ℤ pos 1 ≡ neg_ℤ (pos (a / n)) = omega (arith, ints) in
    record { reaches = omega (arith, ints); nearest = subst (λ m. negsuc a <ℤ (m *ℤ pos n)) (sym e) (subst (λ m. negsuc a <ℤ m) (sym (neg_mul (a / n) n)) (omega (arith, ints))) }

-- a part has fewer numbers than the board has corners
pub part_below : (m n len h w : ℕ) → len ≡ (m + 1) * (n + 1) → h ≤ m → w ≤ n → h * w < len
part_below m n len h w e lh lw = grind arith
