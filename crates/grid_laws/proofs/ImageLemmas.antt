-- The price of a symmetry is the least number of swaps that make the storage of the image of that of the table.
use Rattle.std.proofs.Common.{◌≡◌, ℕ, ◌+◌, ◌-◌, ◌*◌, ◌/◌, ◌<◌, List, length, sym, ◌∙◌, ap, subst, arith, slice_get, mul_comm}
use Rattle.grid_laws.proofs.Common.{row_count, col_count, cell, IsTable, storage, place, flipped, act, order_after, price, image_rows, image_cols, source_row, source_col, length-storage, get-storage, has_place, source_within, rows-act, cols-act, cell-act, IsTable-act, same_cells, HasDifferentCells, IsLeast, product, act-act, act-identity, place_flipped, opposite_place}
use Rattle.grid_base.specs.declared.order.Order.{Order}
use Rattle.grid_base.specs.declared.order.Order.TheVariants.{RowMajor, ColumnMajor}
use Rattle.grid_base.specs.declared.words.Symmetry.{Symmetry}
use Rattle.grid_base.specs.declared.words.Symmetry.TheVariants.{Identity, FlipRows, FlipCols, RotateHalf, Transpose, RotateLeft, RotateRight, AntiTranspose}
use Rattle.grid_laws.proofs.MirrorLemmas.{HasDifferentItems, least_by_mirror, none_is_least}
use Rattle.grid_laws.proofs.PassLemmas.{cut, across, across_at, along, along_at, halves, mirror_across, mirror_along, mirror_whole}

-- the items of the storage of a table of different cells
pub different_storage : {T : Type 0} (o : Order) (t : List (List T)) → IsTable t → HasDifferentCells t → HasDifferentItems (storage o t)
different_storage o t h d =
    let len = length-storage o t h in
    record {
      different = λ i j p q e.
          let a = has_place o (row_count t) (col_count t) i (omega arith) in
          let b = has_place o (row_count t) (col_count t) j (omega arith) in
          let same = d.different a.r a.c b.r b.c (a.lr, a.lc) (b.lr, b.lc)
          (sym (get-storage o t a.r a.c h a.lr a.lc)
          ∙ (ap (slice_get (storage o t)) a.is ∙ (e ∙ (ap (slice_get (storage o t)) (sym b.is) ∙ get-storage o t b.r b.c h b.lr b.lc)))) in
          sym a.is ∙ (ap (λ r. place o (row_count t) (col_count t) r a.c) same.0 ∙ (ap (place o (row_count t) (col_count t) b.r) same.1 ∙ b.is));
    }

module _ {T : Type 0} (xs ys : List T) (d : HasDifferentItems xs) where
  lines_flipped : (p q : ℕ) → length xs ≡ p * q → length ys ≡ p * q → ((i j : ℕ) → i < p → j < q → slice_get ys (i * q + j) ≡ slice_get xs ((p - 1 - i) * q + j)) → IsLeast (p / 2 * q) xs ys
  lines_flipped p q lx ly same =
      least_by_mirror (p * q) (p / 2 * q) (across p q) (λ x. x) (mirror_across p q) xs ys lx ly
      (λ k lt.
      let c = cut p q k lt in
      ap (slice_get ys) c.is ∙ (same c.i c.j c.li c.lj ∙ ap (slice_get xs) (sym (ap (across p q) c.is ∙ across_at p q c.i c.j c.lj))))
      d

  each_flipped : (p q : ℕ) → length xs ≡ p * q → length ys ≡ p * q → ((i j : ℕ) → i < p → j < q → slice_get ys (i * q + j) ≡ slice_get xs (i * q + (q - 1 - j))) → IsLeast (p * (q / 2)) xs ys
  each_flipped p q lx ly same =
      least_by_mirror (p * q) (p * (q / 2)) (along p q) (halves q) (mirror_along p q) xs ys lx ly
      (λ k lt.
      let c = cut p q k lt in
      ap (slice_get ys) c.is ∙ (same c.i c.j c.li c.lj ∙ ap (slice_get xs) (sym (ap (along p q) c.is ∙ along_at p q c.i c.j c.lj))))
      d

  all_flipped : (n : ℕ) → length xs ≡ n → length ys ≡ n → ((k : ℕ) → k < n → slice_get ys k ≡ slice_get xs (n - 1 - k)) → IsLeast (n / 2) xs ys
  all_flipped n lx ly same = least_by_mirror n (n / 2) (λ k. n - 1 - k) (λ x. x) (mirror_whole n) xs ys lx ly same d

module _ {T : Type 0} (t : List (List T)) (h : IsTable t) (d : HasDifferentCells t) (ys : List T) (ly : length ys ≡ row_count t * col_count t) where
  -- a storage whose cell at each place is that of another place
  abbrev Shows : Order → (ℕ → ℕ) → (ℕ → ℕ) → Type 0
  Shows o f g =
      (r c : ℕ) → r < row_count t → c < col_count t → slice_get ys (place o (row_count t) (col_count t) r c) ≡ cell t (f r) (g c)

  rows_flipped : (o : Order) → Shows o (λ r. row_count t - 1 - r) (λ c. c) → IsLeast (row_count t / 2 * col_count t) (storage o t) ys
  rows_flipped RowMajor same =
      lines_flipped (storage RowMajor t) ys (different_storage RowMajor t h d) (row_count t) (col_count t) (length-storage RowMajor t h) ly
      (λ i j p q. same i j p q ∙ sym (get-storage RowMajor t (row_count t - 1 - i) j h (omega arith) q))
  rows_flipped ColumnMajor same =
      subst (λ k. IsLeast k (storage ColumnMajor t) ys) (mul_comm (col_count t) (row_count t / 2))
      (each_flipped (storage ColumnMajor t) ys (different_storage ColumnMajor t h d) (col_count t) (row_count t)
      (length-storage ColumnMajor t h ∙ mul_comm (row_count t) (col_count t)) (ly ∙ mul_comm (row_count t) (col_count t))
      (λ i j p q. same j i q p ∙ sym (get-storage ColumnMajor t (row_count t - 1 - j) i h (omega arith) p)))

  cols_flipped : (o : Order) → Shows o (λ r. r) (λ c. col_count t - 1 - c) → IsLeast (row_count t * (col_count t / 2)) (storage o t) ys
  cols_flipped RowMajor same =
      each_flipped (storage RowMajor t) ys (different_storage RowMajor t h d) (row_count t) (col_count t) (length-storage RowMajor t h) ly
      (λ i j p q. same i j p q ∙ sym (get-storage RowMajor t i (col_count t - 1 - j) h p (omega arith)))
  cols_flipped ColumnMajor same =
      subst (λ k. IsLeast k (storage ColumnMajor t) ys) (mul_comm (col_count t / 2) (row_count t))
      (lines_flipped (storage ColumnMajor t) ys (different_storage ColumnMajor t h d) (col_count t) (row_count t)
      (length-storage ColumnMajor t h ∙ mul_comm (row_count t) (col_count t)) (ly ∙ mul_comm (row_count t) (col_count t))
      (λ i j p q. same j i q p ∙ sym (get-storage ColumnMajor t j (col_count t - 1 - i) h q (omega arith))))

  both_flipped : (o : Order) → Shows o (λ r. row_count t - 1 - r) (λ c. col_count t - 1 - c) → IsLeast (row_count t * col_count t / 2) (storage o t) ys
  both_flipped o same =
      all_flipped (storage o t) ys (different_storage o t h d) (row_count t * col_count t) (length-storage o t h) ly
      (λ k lt.
      let p = has_place o (row_count t) (col_count t) k lt in
      let lr = p.lr in
      let lc = p.lc in
      ap (slice_get ys) (sym p.is)
      ∙ (same p.r p.c p.lr p.lc
      ∙ (sym (get-storage o t (row_count t - 1 - p.r) (col_count t - 1 - p.c) h (omega arith) (omega arith))
      ∙ ap (slice_get (storage o t)) (sym (opposite_place o (row_count t) (col_count t) p.r p.c p.lr p.lc) ∙ ap (λ x. row_count t * col_count t - 1 - x) p.is))))

-- each cell of the image in its storage
image_at : {T : Type 0} (s : Symmetry) (o : Order) (t : List (List T)) (i j : ℕ) → IsTable t → i < image_rows s (row_count t) (col_count t) → j < image_cols s (row_count t) (col_count t) → slice_get (storage (order_after s o) (act s t)) (place (order_after s o) (image_rows s (row_count t) (col_count t)) (image_cols s (row_count t) (col_count t)) i j) ≡ cell t (source_row s (row_count t) (col_count t) i j) (source_col s (row_count t) (col_count t) i j)
image_at s o t i j h p q =
    let er = rows-act s t in
    let ec = cols-act s t h in
    ap (slice_get (storage (order_after s o) (act s t)))
    (ap (λ x. place (order_after s o) x (image_cols s (row_count t) (col_count t)) i j) (sym er) ∙ ap (λ x. place (order_after s o) (row_count (act s t)) x i j) (sym ec))
    ∙ (get-storage (order_after s o) (act s t) i j (IsTable-act s t h) (subst (λ x. i < x) (sym er) p) (subst (λ x. j < x) (sym ec) q)
    ∙ cell-act s t i j h p q)

length-image : {T : Type 0} (s : Symmetry) (o : Order) (t : List (List T)) → IsTable t → length (storage (order_after s o) (act s t)) ≡ image_rows s (row_count t) (col_count t) * image_cols s (row_count t) (col_count t)
length-image s o t h =
    length-storage (order_after s o) (act s t) (IsTable-act s t h)
    ∙ (ap (λ x. x * col_count (act s t)) (rows-act s t) ∙ ap (λ x. image_rows s (row_count t) (col_count t) * x) (cols-act s t h))

-- a transposed table in the other order has the same storage
pub storage_across : {T : Type 0} (o : Order) (t : List (List T)) → IsTable t → storage (flipped o) (act Transpose t) ≡ storage o t
storage_across o t h =
    let len = length-storage o t h in
    let long : length (storage (flipped o) (act Transpose t)) ≡ row_count t * col_count t = length-image Transpose o t h ∙ mul_comm (col_count t) (row_count t) in
    same_cells (storage (flipped o) (act Transpose t)) (storage o t) (omega arith)
    (λ k lt.
    let p = has_place o (row_count t) (col_count t) k (omega arith) in
    ap (slice_get (storage (flipped o) (act Transpose t))) (sym (place_flipped o (row_count t) (col_count t) p.r p.c ∙ p.is))
    ∙ (image_at Transpose o t p.c p.r h p.lc p.lr
    ∙ (sym (get-storage o t p.r p.c h p.lr p.lc) ∙ ap (slice_get (storage o t)) p.is)))

module _ {T : Type 0} (o : Order) (t : List (List T)) (h : IsTable t) (d : HasDifferentCells t) where
  abbrev stored : Symmetry → List T
  stored s = storage (order_after s o) (act s t)

  -- a transpose after it moves no cell of the storage
  then_transposed : (k : ℕ) (s : Symmetry) → IsLeast k (storage o t) (storage o (act s t)) → IsLeast k (storage o t) (storage (flipped o) (act (product s Transpose) t))
  then_transposed k s least =
      subst (IsLeast k (storage o t)) (sym (ap (storage (flipped o)) (sym (act-act s Transpose t h)) ∙ storage_across o (act s t) (IsTable-act s t h))) least

  cols_least : IsLeast (price FlipCols (row_count t) (col_count t)) (storage o t) (stored FlipCols)
  cols_least = cols_flipped t h d (stored FlipCols) (length-image FlipCols o t h) o (λ r c p q. image_at FlipCols o t r c h p q)

  rows_least : IsLeast (price FlipRows (row_count t) (col_count t)) (storage o t) (stored FlipRows)
  rows_least = rows_flipped t h d (stored FlipRows) (length-image FlipRows o t h) o (λ r c p q. image_at FlipRows o t r c h p q)

  both_least : IsLeast (price RotateHalf (row_count t) (col_count t)) (storage o t) (stored RotateHalf)
  both_least = both_flipped t h d (stored RotateHalf) (length-image RotateHalf o t h) o (λ r c p q. image_at RotateHalf o t r c h p q)

  pub price_is_least : (s : Symmetry) → IsLeast (price s (row_count t) (col_count t)) (storage o t) (stored s)
  price_is_least Identity = none_is_least (storage o t) (stored Identity) (ap (storage o) (act-identity t h))
  price_is_least FlipCols = cols_least
  price_is_least FlipRows = rows_least
  price_is_least RotateHalf = both_least
  price_is_least Transpose = none_is_least (storage o t) (stored Transpose) (storage_across o t h)
  price_is_least RotateLeft = then_transposed _ FlipCols cols_least
  price_is_least RotateRight =
      subst (λ k. IsLeast k (storage o t) (stored RotateRight)) (mul_comm (row_count t / 2) (col_count t)) (then_transposed _ FlipRows rows_least)
  price_is_least AntiTranspose = then_transposed _ RotateHalf both_least

-- different cells of the image come from different cells
source_different : (s : Symmetry) (m n r c i j : ℕ) → r < image_rows s m n → c < image_cols s m n → i < image_rows s m n → j < image_cols s m n → source_row s m n r c ≡ source_row s m n i j → source_col s m n r c ≡ source_col s m n i j → (r ≡ i) × (c ≡ j)
source_different Identity m n r c i j a b u v e f = (e, f)
source_different FlipCols m n r c i j a b u v e f = (e, omega arith)
source_different FlipRows m n r c i j a b u v e f = (omega arith, f)
source_different RotateHalf m n r c i j a b u v e f = (omega arith, omega arith)
source_different Transpose m n r c i j a b u v e f = (f, e)
source_different RotateLeft m n r c i j a b u v e f = (omega arith, e)
source_different RotateRight m n r c i j a b u v e f = (f, omega arith)
source_different AntiTranspose m n r c i j a b u v e f = (omega arith, omega arith)

pub different_image : {T : Type 0} (s : Symmetry) (t : List (List T)) → IsTable t → HasDifferentCells t → HasDifferentCells (act s t)
different_image s t h d =
    let m = row_count t in
    let n = col_count t in
    let er = rows-act s t in
    let ec = cols-act s t h in
    record {
      different = λ r c i j p q e.
          let a = subst (λ x. r < x) er p.0 in
          let b = subst (λ x. c < x) ec p.1 in
          let u = subst (λ x. i < x) er q.0 in
          let v = subst (λ x. j < x) ec q.1 in
          let same = d.different (source_row s m n r c) (source_col s m n r c) (source_row s m n i j) (source_col s m n i j)
          (source_within s m n r c a b) (source_within s m n i j u v)
          (sym (cell-act s t r c h a b) ∙ (e ∙ cell-act s t i j h u v)) in
          source_different s m n r c i j a b u v same.0 same.1;
    }
