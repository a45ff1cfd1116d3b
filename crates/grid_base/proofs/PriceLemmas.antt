-- No symmetry costs more than half of the cells.
use Rattle.std.proofs.Common.{ℕ, ◌+◌, ◌*◌, ◌/◌, ◌≤◌, arith, mul_comm, mul-le-mul_left}
use Rattle.grid_base.specs.declared.words.Symmetry.{Symmetry}
use Rattle.grid_base.specs.declared.words.Symmetry.TheVariants.{Identity, FlipCols, FlipRows, RotateHalf, Transpose, RotateLeft, RotateRight, AntiTranspose}
use Rattle.grid_base.proofs.Common.{half, price}

half_of_each : (m n : ℕ) → m * (n / 2) ≤ half m n
half_of_each m n =
    let pairs : n / 2 + n / 2 ≤ n = omega arith in
    let both : m * (n / 2 + n / 2) ≤ m * n = mul-le-mul_left m pairs in
    omega arith

pub price_within_half : (s : Symmetry) (m n : ℕ) → price s m n ≤ half m n
price_within_half Identity m n = omega arith
price_within_half FlipCols m n = half_of_each m n
price_within_half FlipRows m n = omega (arith, half_of_each n m, mul_comm m n, mul_comm n (m / 2))
price_within_half RotateHalf m n = omega arith
price_within_half Transpose m n = omega arith
price_within_half RotateLeft m n = half_of_each m n
price_within_half RotateRight m n = omega (arith, half_of_each n m, mul_comm m n)
price_within_half AntiTranspose m n = omega arith
