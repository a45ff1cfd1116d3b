-- The cells that stay and move at a delete of rows are the least number of swaps that bring all that stay to their
-- places.
use Rattle.std.proofs.Common.{◌++◌, ◌≡◌, ℕ, ◌+◌, ◌-◌, ◌*◌, ◌/◌, ◌%◌, ◌<◌, ◌≤◌, cond, ltb, eqb, List, length, take, drop, sym, ◌∙◌, ap, subst, arith, ⊎_elim, slice_get, take-append-drop, lt-ltb, le-ltb, eq-eqb, ne_eqb, mul_comm, mul-le-mul_right}
use Rattle.grid_laws.proofs.Common.{div-mul-add, mod-mul-add, cases_lt, cases_eq, cond-true, cond-false, row, row_count, col_count, cell, InRange, IsTable, storage, place, without_rows, rows_taken_shift, delete_rows_shift, length-storage, get-storage, has_place, row-take_before, row-take_after, rows-take, cols-take, IsTable-take, HasDifferentCells, IsLeast}
use Rattle.grid_base.specs.declared.order.Order.{Order}
use Rattle.grid_base.specs.declared.order.Order.TheVariants.{RowMajor, ColumnMajor}
use Rattle.grid_laws.proofs.PigeonLemmas.{IsAlone}
use Rattle.grid_laws.proofs.MirrorLemmas.{none_is_least}
use Rattle.grid_laws.proofs.PassLemmas.{IsCut, cut, line_before}
use Rattle.grid_laws.proofs.ChainLemmas.{least_by_chain}

-- the row that row r of the table after comes from
pub skip : ℕ → ℕ → ℕ → ℕ
skip i k r = cond (ltb r i) r (k + r)

pub skip_before : (i k r : ℕ) → r < i → skip i k r ≡ r
unfolding skip
skip_before i k r lt = cond-true (ltb r i) r (k + r) (lt-ltb r i lt)

pub skip_after : (i k r : ℕ) → i ≤ r → skip i k r ≡ k + r
unfolding skip
skip_after i k r le = cond-false (ltb r i) r (k + r) (le-ltb r i le)

-- the place, in columns of rest + k cells, that place y in columns of rest cells comes from
from : ℕ → ℕ → ℕ → ℕ → ℕ
from i k rest y = y / rest * (rest + k) + skip i k (y % rest)

from_at : (i k rest c r : ℕ) → r < rest → from i k rest (c * rest + r) ≡ c * (rest + k) + skip i k r
unfolding from
from_at i k rest c r lt =
    ap (λ x. x * (rest + k) + skip i k ((c * rest + r) % rest)) (div-mul-add c rest r lt)
    ∙ ap (λ x. c * (rest + k) + skip i k x) (mod-mul-add c rest r lt)

pub skip_below : (i k rest r : ℕ) → r < rest → skip i k r < rest + k
skip_below i k rest r lt =
    ⊎_elim (λ low. let e = skip_before i k r low in omega arith) (λ high. let e = skip_after i k r high in omega arith) (cases_lt r i)

skip_rising : (i k r s : ℕ) → r < s → skip i k r < skip i k s
skip_rising i k r s lt =
    ⊎_elim (λ low.
    let e = skip_before i k r low in
    ⊎_elim (λ a. let f = skip_before i k s a in omega arith) (λ b. let f = skip_after i k s b in omega arith) (cases_lt s i))
    (λ high. let e = skip_after i k r high in let f = skip_after i k s (omega arith) in omega arith)
    (cases_lt r i)

from_later : (n i k rest y : ℕ) → 0 < k → i ≤ y → y < n * rest → y < from i k rest y
from_later n i k rest y some le lt =
    let c = cut n rest y lt in
    let is = c.is in
    let lj = c.lj in
    let at : from i k rest y ≡ c.i * (rest + k) + skip i k c.j = ap (from i k rest) c.is ∙ from_at i k rest c.i c.j c.lj in
    ⊎_elim (λ none.
    let e : c.i ≡ 0 = omega arith in
    let first : c.i * rest ≡ 0 = ap (λ x. x * rest) e ∙ omega arith in
    let f = skip_after i k c.j (omega arith) in
    omega arith)
    (λ more.
    let wide = mul-le-mul_right k more in
    ⊎_elim (λ low. let e = skip_before i k c.j low in omega arith) (λ high. let e = skip_after i k c.j high in omega arith) (cases_lt c.j i))
    (cases_lt c.i 1)

from_rising : (n i k rest y z : ℕ) → y < z → z < n * rest → from i k rest y < from i k rest z
from_rising n i k rest y z lt in_all =
    let c = cut n rest y (omega arith) in
    let d = cut n rest z in_all in
    let ci = c.is in
    let di = d.is in
    let cj = c.lj in
    let dj = d.lj in
    let at : from i k rest y ≡ c.i * (rest + k) + skip i k c.j = ap (from i k rest) c.is ∙ from_at i k rest c.i c.j c.lj in
    let bt : from i k rest z ≡ d.i * (rest + k) + skip i k d.j = ap (from i k rest) d.is ∙ from_at i k rest d.i d.j d.lj in
    ⊎_elim (λ less. let before = line_before (rest + k) c.i (skip i k c.j) d.i (skip i k d.j) less (skip_below i k rest c.j c.lj) in omega arith)
    (λ ge.
    ⊎_elim (λ more. let before = line_before rest d.i d.j c.i c.j more d.lj in absurd (omega arith))
    (λ le.
    let e : c.i ≡ d.i = omega arith in
    let f : c.i * (rest + k) ≡ d.i * (rest + k) = ap (λ x. x * (rest + k)) e in
    let g : c.i * rest ≡ d.i * rest = ap (λ x. x * rest) e in
    let up = skip_rising i k c.j d.j (omega arith) in
    omega arith)
    (cases_lt d.i c.i))
    (cases_lt c.i d.i)

from_within : (n i k rest y : ℕ) → y < n * rest → from i k rest y < n * (rest + k)
from_within n i k rest y lt =
    let c = cut n rest y lt in
    let at : from i k rest y ≡ c.i * (rest + k) + skip i k c.j = ap (from i k rest) c.is ∙ from_at i k rest c.i c.j c.lj in
    let before = line_before (rest + k) c.i (skip i k c.j) n 0 c.li (skip_below i k rest c.j c.lj) in
    omega arith

-- p lines of rest + k items each lose k of them, those from i on
module _ {T : Type 0} (xs ys : List T) (p i k rest : ℕ) (some : 0 < k) (le : i ≤ rest) (lines : 0 < p) (lx : length xs ≡ p * (rest + k)) (ly : length ys ≡ p * rest) (left : (c r : ℕ) → c < p → r < rest → slice_get ys (c * rest + r) ≡ slice_get xs (c * (rest + k) + skip i k r)) (alone : (c r : ℕ) → c < p → r < rest → IsAlone xs (c * (rest + k) + skip i k r)) where
  came : (y c r : ℕ) → y ≡ c * rest + r → r < rest → c * (rest + k) + skip i k r ≡ from i k rest y
  came y c r is lt = sym (from_at i k rest c r lt) ∙ ap (from i k rest) (sym is)

  lines_are_least : IsLeast (p * rest - i) xs ys
  lines_are_least =
      let one : 1 * rest ≤ p * rest = mul-le-mul_right rest lines in
      least_by_chain i (p * rest - i) (λ x. from i k rest (i + x))
      (record {
        later = λ x lt. from_later p i k rest (i + x) some (omega arith) (omega arith);
        rising = λ x y lt in_all. from_rising p i k rest (i + x) (i + y) (omega arith) (omega arith);
      })
      xs ys (omega arith) (omega arith) (λ x lt. let w = from_within p i k rest (i + x) (omega arith) in omega arith)
      (λ y lt.
      ap (slice_get ys) (omega arith)
      ∙ (left 0 y lines (omega arith) ∙ ap (slice_get xs) (ap (λ r. 0 * (rest + k) + r) (skip_before i k y lt) ∙ omega arith)))
      (λ x lt.
      let c = cut p rest (i + x) (omega arith) in
      ap (slice_get ys) c.is ∙ (left c.i c.j c.li c.lj ∙ ap (slice_get xs) (came (i + x) c.i c.j c.is c.lj)))
      (λ x lt. let c = cut p rest (i + x) (omega arith) in subst (IsAlone xs) (came (i + x) c.i c.j c.is c.lj) (alone c.i c.j c.li c.lj))

-- the cells of all rows but those from i on, k of them, rest rows, are like no other cell
pub record AreAlone {T : Type 0} (t : List (List T)) (i k rest : ℕ) : Type 0 where
  pub alone : (r c x y : ℕ) → r < rest → c < col_count t → InRange t x y → cell t x y ≡ cell t (skip i k r) c → (x ≡ skip i k r) × (y ≡ c)

module _ {T : Type 0} (t : List (List T)) (h : IsTable t) (i k rest : ℕ) (d : AreAlone t i k rest) (some : 0 < k) (le : i ≤ rest) (whole : row_count t ≡ rest + k) where
  in_rows : i + k ≤ row_count t
  in_rows = omega arith

  rows_left : row_count (without_rows i k t) ≡ rest
  rows_left = let e = rows-take i k t in_rows in omega arith

  -- the cell of the table after in its storage, and that of the table before
  cell_left : (o : Order) (r c : ℕ) → r < rest → c < col_count t → slice_get (storage o (without_rows i k t)) (place o rest (col_count t) r c) ≡ slice_get (storage o t) (place o (row_count t) (col_count t) (skip i k r) c)
  cell_left o r c lr lc =
      let below = skip_below i k rest r lr in
      let er = rows_left in
      let ec = cols-take i k t h in_rows (omega arith) in
      ap (slice_get (storage o (without_rows i k t))) (ap (λ x. place o x (col_count t) r c) (sym er) ∙ ap (λ x. place o (row_count (without_rows i k t)) x r c) (sym ec))
      ∙ (get-storage o (without_rows i k t) r c (IsTable-take i k t h in_rows) (omega arith) (omega arith)
      ∙ (⊎_elim (λ low. ap (λ v. slice_get v c) (row-take_before i k t in_rows r low ∙ ap (row t) (sym (skip_before i k r low))))
      (λ high. ap (λ v. slice_get v c) (row-take_after i k t in_rows r high ∙ ap (row t) (sym (skip_after i k r high))))
      (cases_lt r i)
      ∙ sym (get-storage o t (skip i k r) c h (omega arith) lc)))

  length_left : (o : Order) → length (storage o (without_rows i k t)) ≡ rest * col_count t
  length_left o =
      let len = length-storage o (without_rows i k t) (IsTable-take i k t h in_rows) in
      ⊎_elim (λ none.
      let e : rest ≡ 0 = omega arith in
      let z : row_count (without_rows i k t) ≡ 0 = rows_left ∙ e in
      len ∙ (ap (λ x. x * col_count (without_rows i k t)) z ∙ (omega arith ∙ ap (λ x. x * col_count t) (sym e))))
      (λ more. len ∙ (ap (λ x. x * col_count (without_rows i k t)) rows_left ∙ ap (λ x. rest * x) (cols-take i k t h in_rows (omega arith))))
      (cases_lt rest 1)

  -- a cell that stays
  pub alone_at : (o : Order) (r c : ℕ) → r < rest → c < col_count t → IsAlone (storage o t) (place o (row_count t) (col_count t) (skip i k r) c)
  alone_at o r c lr lc j lj e =
      let below = skip_below i k rest r lr in
      let p = has_place o (row_count t) (col_count t) j (omega (arith, length-storage o t h)) in
      let same = d.alone r c p.r p.c lr lc (p.lr, p.lc)
      (sym (get-storage o t p.r p.c h p.lr p.lc)
      ∙ (ap (slice_get (storage o t)) p.is ∙ (e ∙ get-storage o t (skip i k r) c h (omega arith) lc))) in
      sym p.is
      ∙ (ap (λ y. place o (row_count t) (col_count t) y p.c) same.0 ∙ ap (place o (row_count t) (col_count t) (skip i k r)) same.1)

  -- the rows of a row-major storage are one line of it, which loses k rows of n cells
  in_line : (n r c : ℕ) → c < n → skip (i * n) (k * n) (r * n + c) ≡ skip i k r * n + c
  in_line n r c lt =
      ⊎_elim (λ low.
      let before = line_before n r c i 0 low lt in
      skip_before (i * n) (k * n) (r * n + c) (omega arith) ∙ ap (λ x. x * n + c) (sym (skip_before i k r low)))
      (λ high.
      let after = mul-le-mul_right n high in
      skip_after (i * n) (k * n) (r * n + c) (omega arith) ∙ (omega arith ∙ ap (λ x. x * n + c) (sym (skip_after i k r high))))
      (cases_lt r i)

  -- the place of a cell in that one line, before and after
  there : (n z y : ℕ) → z < 1 → (c : IsCut rest n y) → skip i k c.i * n + c.j ≡ z * (rest * n + k * n) + skip (i * n) (k * n) y
  there n z y lz c =
      let none : z ≡ 0 = omega arith in
      sym (ap (λ x. x * (rest * n + k * n) + skip (i * n) (k * n) y) none
      ∙ (omega arith ∙ (ap (skip (i * n) (k * n)) c.is ∙ in_line n c.i c.j c.lj)))

  here : (n z y : ℕ) → z < 1 → (c : IsCut rest n y) → z * (rest * n) + y ≡ c.i * n + c.j
  here n z y lz c = let none : z ≡ 0 = omega arith in ap (λ x. x * (rest * n) + y) none ∙ (omega arith ∙ c.is)

  pub taken_is_least : (o : Order) → IsLeast (rows_taken_shift o (row_count t) (col_count t) i k) (storage o t) (storage o (without_rows i k t))
  taken_is_least RowMajor =
      let n = col_count t in
      let wide : 1 ≤ n = h.nonempty 0 (omega arith) in
      let e : (row_count t - i - k) + i ≡ rest = omega arith in
      let f : ((row_count t - i - k) + i) * n ≡ rest * n = ap (λ x. x * n) e in
      let cost : 1 * (rest * n) - i * n ≡ (row_count t - i - k) * n = omega arith in
      subst (λ x. IsLeast x (storage RowMajor t) (storage RowMajor (without_rows i k t))) cost
      (lines_are_least (storage RowMajor t) (storage RowMajor (without_rows i k t)) 1 (i * n) (k * n) (rest * n)
      (omega (arith, mul-le-mul_right n some)) (mul-le-mul_right n le) (omega arith)
      (length-storage RowMajor t h ∙ (ap (λ x. x * n) whole ∙ omega arith)) (length_left RowMajor ∙ omega arith)
      (λ z y lz ly.
      let c = cut rest n y ly in
      ap (slice_get (storage RowMajor (without_rows i k t))) (here n z y lz c)
      ∙ (cell_left RowMajor c.i c.j c.li c.lj ∙ ap (slice_get (storage RowMajor t)) (there n z y lz c)))
      (λ z y lz ly. let c = cut rest n y ly in subst (IsAlone (storage RowMajor t)) (there n z y lz c) (alone_at RowMajor c.i c.j c.li c.lj)))
  taken_is_least ColumnMajor =
      let n = col_count t in
      let less : rest ≡ row_count t - k = omega arith in
      let wide : 1 ≤ n = h.nonempty 0 (omega arith) in
      subst (λ x. IsLeast (n * x - i) (storage ColumnMajor t) (storage ColumnMajor (without_rows i k t))) less
      (lines_are_least (storage ColumnMajor t) (storage ColumnMajor (without_rows i k t)) n i k rest some le wide
      (length-storage ColumnMajor t h ∙ (ap (λ x. x * n) whole ∙ mul_comm (rest + k) n)) (length_left ColumnMajor ∙ mul_comm rest n)
      (λ c r lc lr. cell_left ColumnMajor r c lr lc ∙ ap (λ m. slice_get (storage ColumnMajor t) (c * m + skip i k r)) whole)
      (λ c r lc lr. subst (λ m. IsAlone (storage ColumnMajor t) (c * m + skip i k r)) whole (alone_at ColumnMajor r c lr lc)))

pub alone_by : {T : Type 0} (t : List (List T)) (i k rest : ℕ) → HasDifferentCells t → row_count t ≡ rest + k → AreAlone t i k rest
alone_by t i k rest d whole = record {
  alone = λ r c x y lr lc there e.
      let below = skip_below i k rest r lr in
      d.different x y (skip i k r) c there (omega arith, lc) e;
}

-- rows that are deleted
pub delete_is_least : {T : Type 0} (o : Order) (t : List (List T)) (i k : ℕ) → IsTable t → HasDifferentCells t → i + k ≤ row_count t → IsLeast (delete_rows_shift o (row_count t) (col_count t) i k) (storage o t) (storage o (without_rows i k t))
delete_is_least o t i k h d within =
    ⊎_elim (λ none.
    let same : i + k ≡ i = omega arith in
    let cost : delete_rows_shift o (row_count t) (col_count t) i k ≡ 0 = cond-true (eqb k 0) 0 _ (eq-eqb k 0 none) in
    subst (λ x. IsLeast x (storage o t) (storage o (without_rows i k t))) (sym cost)
    (none_is_least (storage o t) (storage o (without_rows i k t)) (ap (storage o) (ap (λ j. take i t ++ drop j t) same ∙ take-append-drop i t))))
    (λ some.
    let cost : delete_rows_shift o (row_count t) (col_count t) i k ≡ rows_taken_shift o (row_count t) (col_count t) i k =
    cond-false (eqb k 0) 0 _ (ne_eqb k 0 some) ∙ cond-false (ltb (row_count t) (i + k)) 0 _ (le-ltb (row_count t) (i + k) within) in
    subst (λ x. IsLeast x (storage o t) (storage o (without_rows i k t))) (sym cost)
    (taken_is_least t h i k (row_count t - k) (alone_by t i k (row_count t - k) d (omega arith)) (omega arith) (omega arith) (omega arith) o))
    (cases_eq k 0)
