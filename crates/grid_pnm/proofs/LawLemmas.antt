-- A picture that was written is read as the board of its samples.
use Rattle.std.proofs.Common.{◌≡◌, ℕ, zero, suc, ◌*◌, ◌/◌, ◌<◌, ◌≤◌, ◌^◌, false, true, Ok, List, [], ◌∷◌, ◌++◌, length, map, take, drop, All, codes, refl, ap, sym, ◌∙◌, arith, length-append, flat_map, le-mul_of_pos_right, mul_comm}
use Rattle.grid_base.proofs.Common.{first_chunks, take-append_seam, drop-append_seam, flat_map-append, length-map, map-append, All-append, row, row_count, col_count, IsSize, IsTable, concat_rows}
use Rattle.grid_base.specs.declared.order.Order.TheVariants.{RowMajor}
use Rattle.grid_base.proofs.TableLemmas.{IsSize-table}
use Rattle.grid_base.proofs.StorageLemmas.{length-storage}
use Rattle.grid_pnm.specs.declared.head.Header.{Header}
use Rattle.grid_pnm.specs.Header.{header_of}
use Rattle.grid_pnm.specs.Samples.{samples_of}
use Rattle.grid_pnm.specs.Reading.{rows_of, pgm_of, ppm_of}
use Rattle.grid_pnm.specs.Writing.{pgm_bytes, ppm_bytes, table_map}
use Rattle.grid_pnm.proofs.PictureLemmas.{rows_are, pgm_is, ppm_is}
use Rattle.grid_pnm.proofs.BackLemmas.{written_header, raster-le, header_back, samples_back}

-- a table of which each cell is mapped
module _ {T X : Type 0} (f : T → X) where
  joined-mapped : (t : List (List T)) → concat_rows (table_map f t) ≡ flat_map (λ l. map f l) t
  joined-mapped [] = refl
  joined-mapped (l ∷ t) = ap (λ xs. map f l ++ xs) (joined-mapped t)

  pub flat-mapped : (t : List (List T)) → flat_map (λ l. map f l) t ≡ map f (concat_rows t)
  flat-mapped [] = refl
  flat-mapped (l ∷ t) = ap (λ xs. map f l ++ xs) (flat-mapped t) ∙ sym (map-append f l (concat_rows t))

  width-mapped : (t : List (List T)) (r : ℕ) → length (row (table_map f t) r) ≡ length (row t r)
  width-mapped [] r = refl
  width-mapped (l ∷ t) zero = length-map l f
  width-mapped (l ∷ t) (suc r) = width-mapped t r

  sized-mapped : (t : List (List T)) → IsTable t → IsTable (table_map f t) × (col_count (table_map f t) ≡ col_count t)
  sized-mapped t h = (
    record {
      nonempty = λ r lt. rw (width-mapped t r) (h.nonempty r (rw (length-map t (λ l. map f l)) at lt));
      even = λ r lt. rw (width-mapped t r, width-mapped t 0) (h.even r (rw (length-map t (λ l. map f l)) at lt));
    },
    width-mapped t 0,
  )

-- the samples of a table are those of its cells
pub raster-concat : {T : Type 0} (h : T → List ℕ) (t : List (List T)) → flat_map (λ l. flat_map h l) t ≡ flat_map h (concat_rows t)
raster-concat h [] = refl
raster-concat h (l ∷ t) = ap (λ xs. flat_map h l ++ xs) (raster-concat h t) ∙ sym (flat_map-append h l (concat_rows t))

-- cells of three samples
module _ {T : Type 0} (h : T → List ℕ) where
  abbrev pub AreTriples : List T → Type 0
  AreTriples xs = All (λ x. length (h x) ≡ 3) xs

  later : (x : T) (xs : List T) → AreTriples (x ∷ xs) → AreTriples xs
  later x xs all k d lt = all (suc k) d (omega (arith, lt))

  chunks-flat : (xs : List T) → AreTriples xs → first_chunks 3 (length xs) (flat_map h xs) ≡ map h xs
  chunks-flat [] all = refl
  chunks-flat (x ∷ xs) all =
      let three : 3 ≡ length (h x) = sym (all 0 x (omega arith)) in
      let first : take 3 (h x ++ flat_map h xs) ≡ h x = ap (λ k. take k (h x ++ flat_map h xs)) three ∙ take-append_seam (h x) (flat_map h xs) in
      let rest : drop 3 (h x ++ flat_map h xs) ≡ flat_map h xs = ap (λ k. drop k (h x ++ flat_map h xs)) three ∙ drop-append_seam (h x) (flat_map h xs) in
      ap (λ y. y ∷ first_chunks 3 (length xs) (drop 3 (h x ++ flat_map h xs))) first
      ∙ ap (λ ys. h x ∷ ys) (ap (first_chunks 3 (length xs)) rest ∙ chunks-flat xs (later x xs all))

  length-flat : (xs : List T) → AreTriples xs → length (flat_map h xs) ≡ length xs * 3
  length-flat [] all = refl
  length-flat (x ∷ xs) all = omega (arith, all 0 x (omega arith), length-flat xs (later x xs all), length-append (h x) (flat_map h xs))

  all-concat : (t : List (List T)) → All AreTriples t → AreTriples (concat_rows t)
  all-concat [] all = λ k d lt. absurd (omega (arith, lt))
  all-concat (l ∷ t) all =
      All-append (λ x. length (h x) ≡ 3) l (concat_rows t) (all 0 l (omega arith)) (all-concat t (λ k d lt. all (suc k) d (omega (arith, lt))))

-- there are as many cells as rows and as columns
rows-le : (m n : ℕ) → IsSize m n → m ≤ m * n
rows-le zero n z = omega arith
rows-le (suc m) n z = le-mul_of_pos_right (suc m) (z.has_cols (omega arith))

cols-le : (m n : ℕ) → IsSize m n → n ≤ m * n
cols-le m zero z = omega arith
cols-le m (suc n) z = omega (arith, mul_comm m (suc n), le-mul_of_pos_right (suc n) (z.has_rows (omega arith)))

module _ {T : Type 0} (t : List (List T)) (table : IsTable t) where
  many : length (concat_rows t) ≡ row_count t * col_count t
  many = length-storage RowMajor t table

  -- the picture of cells that are mapped is the mapped table
  mapped-back : {X : Type 0} (f : T → X) (header : Header) (cells : List X) → header.rows ≡ row_count t → header.cols ≡ col_count t → cells ≡ map f (concat_rows t) → table_map f t ≡ rows_of header cells
  mapped-back f header cells rows cols is =
      let count : length cells ≡ header.rows * header.cols = ap length is ∙ (length-map (concat_rows t) f ∙ (length-storage RowMajor t table ∙ sym (ap (λ k. k * header.cols) rows ∙ ap (λ k. row_count t * k) cols))) in
      rows_are header cells count (table_map f t) (sized-mapped f t table).0 (joined-mapped f t ∙ (flat-mapped f t ∙ sym is)) (λ some. (sized-mapped f t table).1 ∙ sym cols)

  -- a gray picture
  pub pgm_back : (h : T → ℕ) → length (pgm_bytes h t) < 2 ^ 64 → pgm_of (pgm_bytes h t) ≡ Ok (table_map h t)
  pgm_back h small =
      let raster : List ℕ = flat_map (λ l. map h l) t in
      let cells : raster ≡ map h (concat_rows t) = flat-mapped h t in
      let header : Header = written_header (codes "P5") false (row_count t) (col_count t) raster (length (pgm_bytes h t)) in
      let count : length raster ≡ row_count t * col_count t * 1 = omega (arith, ap length cells, length-map (concat_rows t) h, many) in
      let within : length raster < 2 ^ 64 = omega (arith, small, raster-le (codes "P5") false (row_count t) (col_count t) raster) in
      let rows : row_count t < 2 ^ 64 = omega (arith, within, count, rows-le (row_count t) (col_count t) (IsSize-table t table)) in
      let cols : col_count t < 2 ^ 64 = omega (arith, within, count, cols-le (row_count t) (col_count t) (IsSize-table t table)) in
      let read : header_of (pgm_bytes h t) ≡ Ok header = header_back (codes "P5") false (row_count t) (col_count t) raster (length (pgm_bytes h t)) rows cols in
      let samples : samples_of 1 (pgm_bytes h t) header ≡ Ok raster = samples_back (codes "P5") false (row_count t) (col_count t) raster 1 count in
      pgm_is (pgm_bytes h t) header raster (table_map h t) read refl samples (mapped-back h header raster refl refl cells)

  -- a colored picture
  pub ppm_back : (h : T → List ℕ) → All (AreTriples h) t → length (ppm_bytes h t) < 2 ^ 64 → ppm_of (ppm_bytes h t) ≡ Ok (table_map h t)
  ppm_back h all small =
      let raster : List ℕ = flat_map (λ l. flat_map h l) t in
      let joined : raster ≡ flat_map h (concat_rows t) = raster-concat h t in
      let three : AreTriples h (concat_rows t) = all-concat h t all in
      let header : Header = written_header (codes "P6") true (row_count t) (col_count t) raster (length (ppm_bytes h t)) in
      let count : length raster ≡ row_count t * col_count t * 3 = omega (arith, ap length joined, length-flat h (concat_rows t) three, many) in
      let within : length raster < 2 ^ 64 = omega (arith, small, raster-le (codes "P6") true (row_count t) (col_count t) raster) in
      let rows : row_count t < 2 ^ 64 = omega (arith, within, count, rows-le (row_count t) (col_count t) (IsSize-table t table)) in
      let cols : col_count t < 2 ^ 64 = omega (arith, within, count, cols-le (row_count t) (col_count t) (IsSize-table t table)) in
      let read : header_of (ppm_bytes h t) ≡ Ok header = header_back (codes "P6") true (row_count t) (col_count t) raster (length (ppm_bytes h t)) rows cols in
      let samples : samples_of 3 (ppm_bytes h t) header ≡ Ok raster = samples_back (codes "P6") true (row_count t) (col_count t) raster 3 count in
      let thirds : length raster / 3 ≡ length (concat_rows t) = omega (arith, count, many) in
      let cells : first_chunks 3 (length raster / 3) raster ≡ map h (concat_rows t) = ap (λ k. first_chunks 3 k raster) thirds ∙ (ap (first_chunks 3 (length (concat_rows t))) joined ∙ chunks-flat h (concat_rows t) three) in
      ppm_is (ppm_bytes h t) header raster (first_chunks 3 (length raster / 3) raster) (table_map h t) read refl samples count refl (mapped-back h header (first_chunks 3 (length raster / 3) raster) refl refl cells)
