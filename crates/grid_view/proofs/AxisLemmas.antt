-- The indices along an axis.
use Rattle.std.proofs.Common.{◌≡◌, ℕ, zero, suc, ◌+◌, ◌*◌, ◌<◌, ◌≤◌, Bool, true, false, refl, ap, arith, mul_comm, mul-le-mul_right}
use Rattle.grid_view.specs.declared.axis.ViewAxis.{ViewAxis}
use Rattle.grid_base.specs.Lines.{counted}
use Rattle.grid_view.specs.View.{offset, other, turned, first_of}

-- counted from the other end
pub counted_other : (a b : Bool) (n k : ℕ) → k < n → counted (other a b) n k ≡ counted a n (counted b n k)
counted_other true true n k lt = omega arith
counted_other true false n k lt = refl
counted_other false true n k lt = refl
counted_other false false n k lt = refl

pub offset_turned : (a : ViewAxis) (b : Bool) (k : ℕ) → k < a.count → offset (turned a b) k ≡ offset a (counted b a.count k)
offset_turned a b k lt = ap (λ x. x * a.stride) (counted_other a.backwards b a.count k lt)

-- counted from the first of some of them
pub counted_cut : (b : Bool) (n at count k : ℕ) → at + count ≤ n → k < count → counted b n (at + k) ≡ first_of b n at count + counted b count k
counted_cut true n at count k le lt = omega arith
counted_cut false n at count k le lt = refl

pub first_within : (b : Bool) (n at count k : ℕ) → at + count ≤ n → k < count → first_of b n at count + k < n
first_within true n at count k le lt = omega arith
first_within false n at count k le lt = omega arith

pub mul-comm : (m n : ℕ) → m * n ≡ n * m
mul-comm m n = mul_comm m n

-- the places of a stored table
pub row_major_within : (m n i j : ℕ) → i < m → j < n → i * n + j * 1 < m * n
row_major_within m n i j li lj = let more : (i + 1) * n ≤ m * n = mul-le-mul_right n (omega arith) in omega (arith, more)

pub col_major_within : (m n i j : ℕ) → i < m → j < n → i * 1 + j * m < m * n
col_major_within m n i j li lj = let more : (j + 1) * m ≤ n * m = mul-le-mul_right m (omega arith) in omega (arith, more, mul_comm m n)

-- the cells of m rows of n, side by side
pub all_within : (m n len : ℕ) → ((i j : ℕ) → i < m → j < n → i * n + j < len) → m * n ≤ len
all_within zero n len h = omega arith
all_within (suc m) zero len h = omega arith
all_within (suc m) (suc n) len h = omega (arith, h m n (omega arith) (omega arith))
