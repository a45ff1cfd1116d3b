-- All cells of a view, row by row.
use Rattle.std.proofs.Common.{◌≡◌, ℕ, suc, ◌+◌, ◌*◌, ◌^◌, ◌<◌, ◌≤◌, Option, None, Some, Bor, List, [], ◌∷◌, ◌++◌, length, ◌∙◌, sym, ap, arith, length-append, append_assoc, suc-mul, append-nil}
use Rattle.grid_base.proofs.Common.{YieldsFirstRef, YieldsLastRef, flat_map-append, get_or_append_left, get_or-append_seam, row, concat_rows}
use Rattle.grid_base.proofs.StorageLemmas.{length-concat_rows}
use Rattle.grid_view.specs.declared.axis.ViewAxis.{ViewAxis}
use Rattle.grid_view.specs.View.{HoldsView}
use Rattle.grid_view.specs.Value.{ViewValue, view_value}
use Rattle.grid_view.specs.Cells.{AreCellsLeft}
use Rattle.grid_view.proofs.SeenLemmas.{seen_rows, seen_cols}

module _ {T : Type 0} where
  pub length_cells : (w : ℕ) (line : List T) (rows : List (List T)) (last : List T) → AreCellsLeft w line rows last → length (line ++ (concat_rows rows ++ last)) ≡ length line + length rows * w + length last
  length_cells w line rows last h =
      omega (arith, length-append line (concat_rows rows ++ last), length-append (concat_rows rows) last, length-concat_rows rows w h.long)

  -- no step makes more cells
  fewer : (l rest : List T) (r : Option (Bor T)) → YieldsFirstRef (λ (x : List T). x) l r rest → length rest ≤ length l
  fewer l rest None y = omega (arith, ap length y.1)
  fewer l rest (Some x) y = omega (arith, ap length y)

  fewer_back : (l rest : List T) (r : Option (Bor T)) → YieldsLastRef (λ (x : List T). x) l r rest → length rest ≤ length l
  fewer_back l rest None y = omega (arith, ap length y.1)
  fewer_back l rest (Some x) y = omega (arith, ap length y, length-append rest (x.now ∷ []))

  -- the first row is begun
  module _ (w : ℕ) (line last l : List T) (rows others : List (List T)) (h : AreCellsLeft w line rows last) (e : rows ≡ l ∷ others) where
    begun : AreCellsLeft w line (l ∷ others) last
    begun = rw e at h

    first_long : length l ≡ w
    first_long = begun.long 0 (omega arith)

    pub cells_next : (rest : List T) (r : Option (Bor T)) → YieldsFirstRef (λ (x : List T). x) l r rest → AreCellsLeft w rest others last
    cells_next rest r y =
        let short = fewer l rest r y in
        record {
          long = λ k lt. begun.long (suc k) (omega arith);
          some = λ lt. begun.some (omega arith);
          below = omega (arith, begun.below, short, first_long, suc-mul (length others) w);
        }

    pub cells_step : line ≡ [] → (rest : List T) (r : Option (Bor T)) → YieldsFirstRef (λ (x : List T). x) l r rest → YieldsFirstRef (λ (x : List T). x) (line ++ (concat_rows rows ++ last)) r (rest ++ (concat_rows others ++ last))
    cells_step none rest None y = absurd (omega (arith, ap length y.0, first_long, begun.some (omega arith)))
    cells_step none rest (Some x) y =
        ap (λ k. k ++ (concat_rows rows ++ last)) none
        ∙ (ap (λ t. concat_rows t ++ last) e
        ∙ (append_assoc l (concat_rows others) last ∙ ap (λ k. k ++ (concat_rows others ++ last)) y))

  -- the last row is begun
  module _ (w : ℕ) (line last l : List T) (rows others : List (List T)) (h : AreCellsLeft w line rows last) (e : rows ≡ others ++ l ∷ []) where
    one_more : length rows ≡ length others + 1
    one_more = ap length e ∙ length-append others (l ∷ [])

    last_long : length l ≡ w
    last_long = sym (ap (λ t. length (row t (length others))) e ∙ ap length (get_or-append_seam others l [] [])) ∙ h.long (length others) (omega (arith, one_more))

    pub cells_next_back : (rest : List T) (r : Option (Bor T)) → YieldsLastRef (λ (x : List T). x) l r rest → AreCellsLeft w line others rest
    cells_next_back rest r y =
        let short = fewer_back l rest r y in
        let more : length rows * w ≡ (length others + 1) * w = ap (λ n. n * w) one_more in
        record {
          long = λ k lt. sym (ap (λ t. length (row t k)) e ∙ ap length (get_or_append_left others (l ∷ []) [] k lt)) ∙ h.long k (omega (arith, one_more));
          some = λ lt. h.some (omega (arith, one_more));
          below = omega (arith, h.below, short, last_long, more);
        }

    pub cells_step_back : last ≡ [] → (rest : List T) (r : Option (Bor T)) → YieldsLastRef (λ (x : List T). x) l r rest → YieldsLastRef (λ (x : List T). x) (line ++ (concat_rows rows ++ last)) r (line ++ (concat_rows others ++ rest))
    cells_step_back none rest None y = absurd (omega (arith, ap length y.0, last_long, h.some (omega (arith, one_more))))
    cells_step_back none rest (Some x) y =
        ap (λ k. line ++ (concat_rows rows ++ k)) none
        ∙ (ap (λ k. line ++ k) (append-nil (concat_rows rows) ∙ (ap concat_rows e ∙ (flat_map-append (λ r. r) others (l ∷ []) ∙ ap (λ k. concat_rows others ++ k) (append-nil l ∙ y))))
        ∙ (ap (λ k. line ++ k) (sym (append_assoc (concat_rows others) rest (x.now ∷ []))) ∙ sym (append_assoc line (concat_rows others ++ rest) (x.now ∷ []))))

-- none is begun
module _ {T : Type 0} (rows cols : ViewAxis) (cells : List T) (h : HoldsView rows cols (length cells)) (v : ViewValue T) (e : view_value rows cols cells h ≡ v) (line last : List T) (all : List (List T)) (none : line ≡ []) (same : all ≡ v.rows) (none_back : last ≡ []) where
  pub cells_start : AreCellsLeft cols.count line all last
  cells_start =
      let rs = seen_rows rows cols cells h v e in
      let cs = seen_cols rows cols cells h v e in
      let count : length all ≡ rows.count = ap length same ∙ rs in
      record {
        long = λ r lt. ap (λ t. length (row t r)) same ∙ (v.table.even r (omega (arith, ap length same)) ∙ cs);
        some = λ lt. h.size.has_cols (omega arith);
        below = omega (arith, h.below, ap length none, ap length none_back, ap (λ n. n * cols.count) count);
      }

  pub cells_fit : length (line ++ (concat_rows all ++ last)) < 2 ^ 64
  cells_fit = omega (arith, length_cells cols.count line all last cells_start, cells_start.below)

  -- they are the cells of the view
  pub cells_all : line ++ (concat_rows all ++ last) ≡ concat_rows v.rows
  cells_all =
      ap (λ k. k ++ (concat_rows all ++ last)) none
      ∙ (ap (λ k. concat_rows all ++ k) none_back ∙ (append-nil (concat_rows all) ∙ ap concat_rows same))
