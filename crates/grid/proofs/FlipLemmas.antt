-- What a pass over the cells of a grid makes of its table.
use Rattle.std.proofs.Common.{◌≡◌, ℕ, ◌+◌, ◌-◌, ◌*◌, ◌/◌, ◌<◌, List, Bool, true, false, length, refl, sym, ◌∙◌, ap, arith, mul_comm, slice_get}
use Rattle.grid.proofs.Common.{row_count, col_count, IsTable, table_of, place, flipped, HoldsSize, act, price, flags_of, from_flags, PartReversed, view-act, view-table, view-transpose, rows-act, cols-act, product, act-act, act-identity, place_within, LinesReversed, EachLineReversed}
use Rattle.grid_base.specs.declared.order.Order.{Order}
use Rattle.grid_base.specs.declared.order.Order.TheVariants.{RowMajor, ColumnMajor}
use Rattle.grid_base.specs.declared.words.Symmetry.TheVariants.{Identity, FlipRows, FlipCols, RotateHalf, Transpose, RotateLeft, RotateRight, AntiTranspose}
use Rattle.grid_base.specs.declared.words.Symmetry.{Symmetry}

module _ {T : Type 0} (m n : ℕ) (old new : List T) (h : HoldsSize m n (length old)) where
  pub flip_rows_by_lines : LinesReversed m n old new → table_of RowMajor m n new ≡ act FlipRows (table_of RowMajor m n old)
  flip_rows_by_lines e = view-act RowMajor m n old h FlipRows RowMajor new (λ i j p q. e.moved i j p q)

  pub flip_rows_by_each : EachLineReversed n m old new → table_of ColumnMajor m n new ≡ act FlipRows (table_of ColumnMajor m n old)
  flip_rows_by_each e = view-act ColumnMajor m n old h FlipRows ColumnMajor new (λ i j p q. e.moved j i q p)

-- a flip of the rows of the transposed table is one of the columns
pub flip_cols_across : {T : Type 0} (o : Order) (m n : ℕ) (old new : List T) → HoldsSize m n (length old) → length new ≡ length old → table_of (flipped o) n m new ≡ act FlipRows (table_of (flipped o) n m old) → table_of o m n new ≡ act FlipCols (table_of o m n old)
flip_cols_across o m n old new h len e =
    let k : HoldsSize m n (length new) = rw len h in
    let t = view-table o m n old h in
    let back : act Transpose (act Transpose (table_of o m n new)) ≡ table_of o m n new = act-act Transpose Transpose _ (view-table o m n new k) ∙ act-identity _ (view-table o m n new k) in
    let mid : act Transpose (table_of o m n new) ≡ act FlipRows (act Transpose (table_of o m n old)) = sym (view-transpose o m n new k) ∙ (e ∙ ap (act FlipRows) (view-transpose o m n old h)) in
    sym back
    ∙ (ap (act Transpose) (mid ∙ act-act Transpose FlipRows _ t) ∙ act-act (product Transpose FlipRows) Transpose _ t)

pub price_across : (m n : ℕ) → price FlipRows n m ≡ price FlipCols m n
price_across m n = mul_comm (n / 2) m

-- the place of the cell that is opposite
opposite : (p q i j : ℕ) → i < p → j < q → p * q - 1 - (i * q + j) ≡ (p - 1 - i) * q + (q - 1 - j)
opposite p q i j a b =
    let whole : (p - 1 - i) + (i + 1) ≡ p = omega arith in
    let rest : (q - 1 - j) + (j + 1) ≡ q = omega arith in
    let all : ((p - 1 - i) + (i + 1)) * q ≡ p * q = ap (λ x. x * q) whole in
    omega arith

pub opposite_place : (o : Order) (m n i j : ℕ) → i < m → j < n → m * n - 1 - place o m n i j ≡ place o m n (m - 1 - i) (n - 1 - j)
opposite_place RowMajor m n i j a b = opposite m n i j a b
opposite_place ColumnMajor m n i j a b = let e = opposite n m j i b a in omega arith

pub rotate_half_by_part : {T : Type 0} (o : Order) (m n : ℕ) (old new : List T) → HoldsSize m n (length old) → PartReversed 0 (m * n) old new → table_of o m n new ≡ act RotateHalf (table_of o m n old)
rotate_half_by_part o m n old new h e =
    view-act o m n old h RotateHalf o new
    (λ i j p q.
    let from : 0 + place o m n i j ≡ place o m n i j = omega arith in
    let to : 0 + (m * n - 1 - place o m n i j) ≡ place o m n (m - 1 - i) (n - 1 - j) = omega (arith, opposite_place o m n i j p q) in
    sym (ap (slice_get new) from) ∙ (e.moved (place o m n i j) (place_within o m n i j p q) ∙ ap (slice_get old) to))

-- a transpose and then u
pub after_transpose : {T : Type 0} (u : Symmetry) (old mid new : List (List T)) → IsTable old → mid ≡ act Transpose old → new ≡ act u mid → new ≡ act (product Transpose u) old
after_transpose u old mid new t a b = b ∙ (ap (act u) a ∙ act-act Transpose u old t)

pub transposed_rows : {T : Type 0} (old mid : List (List T)) → IsTable old → mid ≡ act Transpose old → row_count mid ≡ col_count old
transposed_rows old mid t a = ap row_count a ∙ rows-act Transpose old

pub transposed_cols : {T : Type 0} (old mid : List (List T)) → IsTable old → mid ≡ act Transpose old → col_count mid ≡ row_count old
transposed_cols old mid t a = ap col_count a ∙ cols-act Transpose old t

-- a symmetry by its flags
pub from_its_flags : (s : Symmetry) (f : Bool × Bool × Bool) (b : Bool) → f ≡ flags_of s → f.0 ≡ b → from_flags b f.1 f.2 ≡ s
from_its_flags s f b e h = sym (ap (λ x. from_flags x f.1 f.2) h) ∙ (ap (λ f. from_flags f.0 f.1 f.2) e ∙ by_cases s)
  where
    by_cases : (s : Symmetry) → from_flags (flags_of s).0 (flags_of s).1 (flags_of s).2 ≡ s
    by_cases Identity = refl
    by_cases FlipCols = refl
    by_cases FlipRows = refl
    by_cases RotateHalf = refl
    by_cases Transpose = refl
    by_cases RotateLeft = refl
    by_cases RotateRight = refl
    by_cases AntiTranspose = refl

-- flips after a transpose
pub transpose_then_flips : (r c : Bool) → product Transpose (from_flags false r c) ≡ from_flags true r c
transpose_then_flips false false = refl
transpose_then_flips false true = refl
transpose_then_flips true false = refl
transpose_then_flips true true = refl

-- what they cost
pub price_of_flips : (r c : Bool) (m n : ℕ) → price (from_flags false r c) n m ≡ price (from_flags true r c) m n
price_of_flips false false m n = refl
price_of_flips false true m n = refl
price_of_flips true false m n = mul_comm (n / 2) m
price_of_flips true true m n = ap (λ k. k / 2) (mul_comm n m)
