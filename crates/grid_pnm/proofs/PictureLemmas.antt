-- The rows of a picture's cells.
use Rattle.std.proofs.Common.{◌≡◌, ◌≢◌, ℕ, zero, suc, ◌*◌, ◌<◌, ◌/◌, Bool, false, true, cond, Result, Ok, Err, inl, inr, MatchResult, List, length, drop, refl, ap, sym, ◌∙◌, arith, ⊎_elim}
use Rattle.grid_base.proofs.Common.{first_chunks, cases_eq, nil_from_length, row, row_count, col_count, IsSize, IsTable, concat_rows, GridValue, table_of, CanCut}
use Rattle.grid_base.specs.declared.order.Order.TheVariants.{RowMajor}
use Rattle.grid_base.proofs.TableLemmas.{rows-tabulate}
use Rattle.grid_base.proofs.StorageLemmas.{length-concat_rows, width-table_of, storage-table_of}
use Rattle.grid.specs.Conversion.{AreEven}
use Rattle.grid.proofs.MadeLemmas.{CanCut-cells}
use Rattle.grid.proofs.ConversionLemmas.{equal_rows_are}
use Rattle.grid_pnm.specs.declared.head.Header.{Header}
use Rattle.grid_pnm.specs.declared.error.PnmError.{PnmError}
use Rattle.grid_pnm.specs.declared.error.PnmError.TheVariants.{BadMagic, Memory}
use Rattle.grid_pnm.specs.Header.{and_then, header_of}
use Rattle.grid_pnm.specs.Samples.{sample_count, samples_of}
use Rattle.grid_pnm.specs.Reading.{rows_of, pgm_of, ppm_of, IsOrMemory}

size_of : (m n : ℕ) → m * n ≢ 0 → IsSize m n
size_of zero n some = absurd (some (omega arith))
size_of (suc m) zero some = absurd (some (omega arith))
size_of (suc m) (suc n) some = record { has_cols = λ lt. omega arith; has_rows = λ lt. omega arith }

has_rows : (m n : ℕ) → m * n ≢ 0 → 0 < m
has_rows zero n some = absurd (some (omega arith))
has_rows (suc m) n some = omega arith

module _ {T : Type 0} (header : Header) (cells : List T) (count : length cells ≡ header.rows * header.cols) where
  pub can_cut : CanCut (length cells) header.cols
  can_cut = CanCut-cells (length cells) header.rows header.cols count

  abbrev cut : List (List T)
  cut = table_of RowMajor header.rows header.cols cells

  cut_rows : row_count cut ≡ header.rows
  cut_rows = rows-tabulate header.rows header.cols _

  width : (r : ℕ) → r < row_count cut → length (row cut r) ≡ header.cols
  width r lt = width-table_of RowMajor header.rows header.cols cells count r (omega (arith, lt, cut_rows))

  even : AreEven cut
  even r lt = width r lt ∙ sym (width 0 (omega (arith, lt)))

  joined : concat_rows cut ≡ cells
  joined =
      ⊎_elim (λ (none : header.rows * header.cols ≡ 0).
      let no_cells : length (concat_rows cut) ≡ 0 = length-concat_rows cut header.cols width ∙ (ap (λ k. k * header.cols) cut_rows ∙ none) in
      nil_from_length (concat_rows cut) no_cells ∙ sym (nil_from_length cells (count ∙ none)))
      (λ some. storage-table_of RowMajor header.rows header.cols cells (size_of header.rows header.cols some) count)
      (cases_eq (header.rows * header.cols) 0)

  -- a table of these cells, in rows of this many
  pub rows_are : (t : List (List T)) → IsTable t → concat_rows t ≡ cells → (length cells ≢ 0 → col_count t ≡ header.cols) → t ≡ rows_of header cells
  rows_are t table stored wide =
      equal_rows_are cut t even table (stored ∙ sym joined) (λ some.
      let others : length cells ≢ 0 = λ none. some (ap length joined ∙ none) in
      let first : 0 < row_count cut = omega (arith, cut_rows, has_rows header.rows header.cols (λ none. others (count ∙ none))) in
      wide others ∙ sym (width 0 first))

-- what is read of a gray picture
pub pgm_is : (bytes : List ℕ) (header : Header) (cells : List ℕ) (t : List (List ℕ)) → header_of bytes ≡ Ok header → header.color ≡ false → samples_of 1 bytes header ≡ Ok cells → t ≡ rows_of header cells → pgm_of bytes ≡ Ok t
pgm_is bytes header cells t is gray samples rows = rw is (by_color header.color (samples_of 1 bytes header) gray samples)
  where
    by_color : (color : Bool) (read : Result (List ℕ) PnmError) → color ≡ false → read ≡ Ok cells → cond color (Err BadMagic) (and_then read (λ samples. Ok (rows_of header samples))) ≡ Ok t
    by_color color read gray samples = rw (gray, samples) (ap Ok (sym rows))

-- each three samples of a colored picture are a cell
third : (header : Header) (samples : List ℕ) → length samples ≡ sample_count 3 header → length samples / 3 ≡ header.rows * header.cols
third header samples count = omega (arith, count)

length-first_chunks : {X : Type 0} (n k : ℕ) (xs : List X) → length (first_chunks n k xs) ≡ k
length-first_chunks n zero xs = refl
length-first_chunks n (suc k) xs = omega (arith, length-first_chunks n k (drop n xs))

pub threes_count : (header : Header) (samples : List ℕ) (cells : List (List ℕ)) → length samples ≡ sample_count 3 header → cells ≡ first_chunks 3 (length samples / 3) samples → length cells ≡ header.rows * header.cols
threes_count header samples cells count is = ap length is ∙ (length-first_chunks 3 (length samples / 3) samples ∙ third header samples count)

-- what is read of a colored picture
pub ppm_is : (bytes : List ℕ) (header : Header) (samples : List ℕ) (cells : List (List ℕ)) (t : List (List (List ℕ))) → header_of bytes ≡ Ok header → header.color ≡ true → samples_of 3 bytes header ≡ Ok samples → length samples ≡ sample_count 3 header → cells ≡ first_chunks 3 (length samples / 3) samples → t ≡ rows_of header cells → ppm_of bytes ≡ Ok t
ppm_is bytes header samples cells t is colored read count threes rows = rw is (by_color header.color (samples_of 3 bytes header) colored read)
  where
    cut : cells ≡ first_chunks 3 (header.rows * header.cols) samples
    cut = threes ∙ ap (λ k. first_chunks 3 k samples) (third header samples count)

    by_color : (color : Bool) (found : Result (List ℕ) PnmError) → color ≡ true → found ≡ Ok samples → cond color (and_then found (λ xs. Ok (rows_of header (first_chunks 3 (header.rows * header.cols) xs)))) (Err BadMagic) ≡ Ok t
    by_color color found colored read = rw (colored, read) (ap Ok (sym (rows ∙ ap (rows_of header) cut)))

-- what is read of a picture of a board is the board, unless allocation failed
module _ {T : Type 0} (channels : ℕ) (bytes : List ℕ) (read : Result (List (List T)) PnmError) (rows : List (List T)) (due : read ≡ Ok rows) where
  pub back : (r : Result (GridValue T) PnmError) → IsOrMemory channels bytes read r → MatchResult r (λ g. g.rows ≡ rows) (λ e. e ≡ Memory)
  back (Ok g) (inl refused) = absurd (cc (refused.0))
  back (Ok g) (inr found) = let both : Ok rows ≡ Ok g.rows = sym due ∙ found.0 in cc
  back (Err e) (inl refused) = cc (refused.0)
  back (Err e) (inr found) = let both : Ok rows ≡ Err e = sym due ∙ found in absurd (cc)
