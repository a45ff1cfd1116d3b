-- The sum of a part is that of four stored sums, since the sums along a row, and then of the rows, telescope.
use Rattle.std.proofs.Common.{◌≡◌, ℕ, zero, suc, ◌+◌, ◌*◌, ◌<◌, ◌≤◌, List, [], ◌∷◌, Some, map, refl, ◌∙◌, ap, arith}
use Rattle.std.specs.List.{fold, filter_map, range_with_len}
use lib.IntN.{ℤ, pos, ◌+ℤ◌, ◌-ℤ◌}
use Rattle.std.proofs.lemmas.Int.{ints}
use Rattle.std.proofs.lemmas.Simd.{map-map}
use Rattle.grid_base.proofs.Common.{tabulate, cells_by, cell, IsSize, row_count, col_count}
use Rattle.grid_base.proofs.TableLemmas.{tabulate-same, cell-tabulate, rows-tabulate, cols-tabulate, IsFull}
use Rattle.grid_view.specs.View.{sub_table}
use Rattle.grid_sums.specs.Numbers.{list_sum, table_sum}
use Rattle.grid_sums.specs.Corners.{at, growth, numbers_of}

-- the size of the table of numbers
pub numbers_full : (m n : ℕ) (sums : List ℤ) → IsFull m n (λ r c. Some (growth (n + 1) sums r c))
numbers_full m n sums = record { full = λ r c lr lc. refl }

pub numbers_rows : (m n : ℕ) (sums : List ℤ) → row_count (numbers_of m n sums) ≡ m
numbers_rows m n sums = rows-tabulate m n _

pub numbers_cols : (m n : ℕ) (sums : List ℤ) → IsSize m n → col_count (numbers_of m n sums) ≡ n
numbers_cols m n sums size = cols-tabulate m n _ size (numbers_full m n sums)

-- a corner is a place of the vector
pub corner_within : (m n r c len : ℕ) → len ≡ (m + 1) * (n + 1) → r ≤ m → c ≤ n → r * (n + 1) + c < len
corner_within m n r c len e lr lc = grind arith

-- the same items in the two lists that functions make of one
map_alike : {A B : Type 0} (f g : A → B) (xs : List A) → ((x : A) → f x ≡ g x) → map f xs ≡ map g xs
map_alike f g [] same = refl
map_alike f g (x ∷ xs) same =
    let head = same x in
    let tail = map_alike f g xs same in
    cc

-- differences of numbers one after another telescope
telescope : (g : ℕ → ℤ) (z : ℤ) (a n : ℕ) → fold ◌+ℤ◌ z (map (λ k. g (k + 1) -ℤ g k) (range_with_len a n)) ≡ z +ℤ (g (a + n) -ℤ g a)
telescope g z a zero =
    let e : g (a + 0) ≡ g a = ap g (omega arith) in
    omega (arith, ints, e)
telescope g z a (suc n) =
    let rest = telescope g (z +ℤ (g (a + 1) -ℤ g a)) (a + 1) n in
    let e : g (a + 1 + n) ≡ g (a + suc n) = ap g (omega arith) in
    rest ∙ omega (arith, ints, e)

some_map : {T : Type 0} (g : ℕ → T) (a n : ℕ) → filter_map (λ k. Some (g k)) (range_with_len a n) ≡ map g (range_with_len a n)
some_map g a zero = refl
some_map g a (suc n) = ap (λ xs. g a ∷ xs) (some_map g (a + 1) n)

pub cells_of : {T : Type 0} (n : ℕ) (g : ℕ → T) → cells_by n (λ k. Some (g k)) ≡ map g (range_with_len 0 n)
unfolding cells_by
cells_of n g = some_map g 0 n

-- numbers that are such differences
differences : (f g : ℕ → ℤ) (n : ℕ) → ((k : ℕ) → f k ≡ g (k + 1) -ℤ g k) → list_sum (map f (range_with_len 0 n)) ≡ g n -ℤ g 0
differences f g n is =
    let same = ap list_sum (map_alike f (λ k. g (k + 1) -ℤ g k) (range_with_len 0 n) is) in
    let sum = telescope g (pos 0) 0 n in
    let e : g (0 + n) ≡ g n = ap g (omega arith) in
    same ∙ (sum ∙ omega (arith, ints, e))

module _ (w : ℕ) (sums : List ℤ) where
  -- the sum of a row of a part
  row_sum : (b n r : ℕ) → list_sum (cells_by n (λ c. Some (growth w sums r (b + c)))) ≡ (at w sums (r + 1) (b + n) -ℤ at w sums r (b + n)) -ℤ (at w sums (r + 1) b -ℤ at w sums r b)
  row_sum b n r =
      let g : ℕ → ℤ = λ c. at w sums (r + 1) (b + c) -ℤ at w sums r (b + c) in
      let step : (c : ℕ) → growth w sums r (b + c) ≡ g (c + 1) -ℤ g c = λ c.
      let e : b + c + 1 ≡ b + (c + 1) = omega arith in
      ap (λ x. (at w sums (r + 1) x -ℤ at w sums r x) -ℤ g c) e in
      let start : g 0 ≡ at w sums (r + 1) b -ℤ at w sums r b = ap (λ x. at w sums (r + 1) x -ℤ at w sums r x) (omega arith) in
      ap list_sum (cells_of n (λ c. growth w sums r (b + c))) ∙ (differences _ g n step ∙ ap (λ z. g n -ℤ z) start)

  -- the sum of a part
  part_sum : (a b h n : ℕ) → table_sum (tabulate h n (λ r c. Some (growth w sums (a + r) (b + c)))) ≡ (at w sums (a + h) (b + n) -ℤ at w sums a (b + n)) -ℤ (at w sums (a + h) b -ℤ at w sums a b)
  unfolding tabulate
  part_sum a b h n =
      let g : ℕ → ℤ = λ r. at w sums (a + r) (b + n) -ℤ at w sums (a + r) b in
      let step : (r : ℕ) → list_sum (cells_by n (λ c. Some (growth w sums (a + r) (b + c)))) ≡ g (r + 1) -ℤ g r = λ r.
      let e : a + r + 1 ≡ a + (r + 1) = omega arith in
      let right = ap (λ x. at w sums x (b + n)) e in
      let left = ap (λ x. at w sums x b) e in
      let sum = row_sum b n (a + r) in
      sum ∙ omega (arith, ints, right, left) in
      let start : g 0 ≡ at w sums a (b + n) -ℤ at w sums a b = ap (λ x. at w sums x (b + n) -ℤ at w sums x b) (omega arith) in
      let all = ap list_sum (map-map list_sum (λ r. cells_by n (λ c. Some (growth w sums (a + r) (b + c)))) (range_with_len 0 h)) in
      all ∙ (differences _ g h step ∙ omega (arith, ints, start))

pub part_is : (m n : ℕ) (sums : List ℤ) (from size : ℕ × ℕ) → from.0 + size.0 ≤ m → from.1 + size.1 ≤ n → sub_table (numbers_of m n sums) from size ≡ tabulate size.0 size.1 (λ r c. Some (growth (n + 1) sums (from.0 + r) (from.1 + c)))
part_is m n sums from size rows cols =
    tabulate-same size.0 size.1 (λ r c. cell (numbers_of m n sums) (from.0 + r) (from.1 + c)) (λ r c. Some (growth (n + 1) sums (from.0 + r) (from.1 + c)))
    (λ r c lr lc. cell-tabulate m n _ (from.0 + r) (from.1 + c) (numbers_full m n sums) (omega arith) (omega arith))
    (record { full = λ r c lr lc. refl })

pub sub_sum : (m n : ℕ) (sums : List ℤ) (from size : ℕ × ℕ) → from.0 + size.0 ≤ m → from.1 + size.1 ≤ n → table_sum (sub_table (numbers_of m n sums) from size) ≡ (at (n + 1) sums (from.0 + size.0) (from.1 + size.1) -ℤ at (n + 1) sums from.0 (from.1 + size.1)) -ℤ (at (n + 1) sums (from.0 + size.0) from.1 -ℤ at (n + 1) sums from.0 from.1)
sub_sum m n sums from size rows cols =
    ap table_sum (part_is m n sums from size rows cols) ∙ part_sum (n + 1) sums from.0 from.1 size.0 size.1

-- the whole table is a part of itself
pub whole_sum : (m n : ℕ) (sums : List ℤ) → table_sum (sub_table (numbers_of m n sums) (0, 0) (m, n)) ≡ table_sum (numbers_of m n sums)
whole_sum m n sums =
    ap table_sum (tabulate-same m n (λ r c. cell (numbers_of m n sums) (0 + r) (0 + c)) (λ r c. Some (growth (n + 1) sums r c))
    (λ r c lr lc.
    let er : 0 + r ≡ r = omega arith in
    let ec : 0 + c ≡ c = omega arith in
    ap (λ x. cell (numbers_of m n sums) x (0 + c)) er ∙ (ap (cell (numbers_of m n sums) r) ec ∙ cell-tabulate m n _ r c (numbers_full m n sums) lr lc))
    (numbers_full m n sums))
