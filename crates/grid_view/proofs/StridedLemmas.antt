-- The cells of a view by the steps between them.
use Rattle.std.proofs.Common.{◌≡◌, ℕ, ◌+◌, ◌-◌, ◌*◌, ◌/◌, ◌%◌, ◌^◌, ◌<◌, List, length, slice_get, sym, ◌∙◌, ap, arith}
use Rattle.std.proofs.Math.Nat.{mod-eq_of_lt, add-mul-mod_self_right, div-add-mod}
use Rattle.grid_base.proofs.TableLemmas.{tabulate-same, rows-tabulate}
use Rattle.grid_base.proofs.Common.{row_count, nil_from_length}
use Rattle.grid_near.specs.Around.{by_steps, strided_table, HoldsCells}
use Rattle.grid_view.specs.declared.axis.ViewAxis.{ViewAxis}
use Rattle.grid_view.specs.View.{offset, seen, IsStepped, HoldsView}
use Rattle.grid_view.specs.Value.{IsFull-seen, place_within}

-- the lines of an axis that comes from the last, whose step back is one modulo 2 ^ 64
pub steps_back : (count stride step k : ℕ) → k < count → (step + stride) % 2 ^ 64 ≡ 0 → (count - 1) * stride + k * step ≡ (count - 1 - k) * stride + k * ((step + stride) / 2 ^ 64) * 2 ^ 64
steps_back count stride step k lt back = omega (arith, parts, ap (λ n. k * n) turns, split)
  where
    q : ℕ
    q = (step + stride) / 2 ^ 64

    turns : step + stride ≡ q * 2 ^ 64
    turns = omega (arith, div-add-mod (step + stride) (2 ^ 64), back)

    parts : (count - 1) * stride ≡ (count - 1 - k) * stride + k * stride
    parts = let e : count - 1 ≡ count - 1 - k + k = omega arith in ap (λ n. n * stride) e ∙ omega arith

    split : k * (step + stride) ≡ k * step + k * stride
    split = omega arith

module _ {T : Type 0} (rows cols : ViewAxis) (cells : List T) (h : HoldsView rows cols (length cells)) (top down left right : ℕ) (x : IsStepped rows top down) (y : IsStepped cols left right) (fits : length cells < 2 ^ 64) where
  pub steps_place : (r c : ℕ) → r < rows.count → c < cols.count → by_steps (top + left) (down, right) r c ≡ offset rows r + offset cols c
  steps_place r c lr lc =
      let turns = r * x.turns + c * y.turns in
      let sum : top + left + r * down + c * right ≡ offset rows r + offset cols c + turns * 2 ^ 64 = omega (arith, x.at r lr, y.at c lc) in
      ap (λ n. n % 2 ^ 64) sum
      ∙ (add-mul-mod_self_right (offset rows r + offset cols c) turns (2 ^ 64) ∙ mod-eq_of_lt (omega (arith, place_within rows cols (length cells) h r c lr lc)))

  module _ (size : ℕ × ℕ) (e : size.0 ≡ rows.count) (f : size.1 ≡ cols.count) where
    pub steps_hold : HoldsCells cells size (by_steps (top + left) (down, right))
    steps_hold = λ r c lr lc.
        let row_in : r < rows.count = omega (arith, lr, e) in
        let col_in : c < cols.count = omega (arith, lc, f) in
        omega (arith, steps_place r c row_in col_in, place_within rows cols (length cells) h r c row_in col_in)

    pub steps_table : strided_table cells size (top + left) (down, right) ≡ seen rows cols cells
    steps_table =
        let same : size ≡ (rows.count, cols.count) = λ i. (e i, f i) in
        ap (λ s. strided_table cells s (top + left) (down, right)) same
        ∙ tabulate-same rows.count cols.count _ _ (λ r c lr lc. ap (slice_get cells) (steps_place r c lr lc)) (IsFull-seen rows cols cells h)

-- a view without rows
pub steps_none : {T : Type 0} (cells : List T) (size : ℕ × ℕ) (start : ℕ) (strides : ℕ × ℕ) (t : List (List T)) → size.0 ≡ 0 → row_count t ≡ size.0 → strided_table cells size start strides ≡ t
steps_none cells size start strides t none rows =
    nil_from_length (strided_table cells size start strides) (rows-tabulate size.0 size.1 (λ r c. slice_get cells (by_steps start strides r c)) ∙ none)
    ∙ sym (nil_from_length t (rows ∙ none))

-- the last cell of a view is within the slice
pub last_within : (rows cols : ViewAxis) (len : ℕ) → HoldsView rows cols len → 0 < rows.count → (0 < cols.count) × ((rows.count - 1) * rows.stride + (cols.count - 1) * cols.stride < len)
last_within rows cols len h some =
    let more = h.size.has_cols some in
    (more, h.within (rows.count - 1) (cols.count - 1) (omega arith) (omega arith))
