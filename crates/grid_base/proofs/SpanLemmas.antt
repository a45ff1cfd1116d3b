-- The rows of a stored table as lines of its storage; of this crate alone.
use Rattle.std.proofs.Common.{◌≡◌, ℕ, ◌+◌, ◌-◌, ◌*◌, ◌/◌, ◌<◌, ◌≤◌, List, ◌++◌, length, take, drop, sym, ◌∙◌, ap, arith, mul-le-mul_right, take-append-drop, length-drop, length-take-le, slice_get}
use Rattle.grid_base.proofs.Common.{take-append_seam, refill, written_from, div-mul-add, div_ceil, row, place, table_of, HoldsSize, strided, IsSpan}
use Rattle.grid_base.specs.declared.order.Order.{Order}
use Rattle.grid_base.specs.declared.flat.span.Span.{Span}
use Rattle.grid_base.proofs.TableLemmas.{width-tabulate, same_cells}
use Rattle.grid_base.proofs.StorageLemmas.{IsFull-table_of}
use Rattle.grid_base.proofs.StrideLemmas.{get-strided, length-line_of, ceil_is}
use Rattle.grid_base.proofs.ViewLemmas.{view-cell}

-- a line whose cells are one after another
pub together_is : (p q i : ℕ) → i < p → IsSpan q (λ k. i * q + k) (p * q) (record { start = i * q; end = i * q + q; stride = 1 })
together_is p q i h =
    let all : (i + 1) * q ≤ p * q = mul-le-mul_right q (omega arith) in
    record {
      steps = omega arith;
      ordered = omega arith;
      within = omega (arith, all);
      count = omega arith;
      places = λ k l. omega arith;
      inside = λ k l. omega arith;
    }

-- how many steps of q there are from i to p * q
steps_across : (p q i : ℕ) → 0 < p → i < q → div_ceil (p * q - i) q ≡ p
steps_across p q i some h =
    let one : q - 1 + 1 ≡ q = omega arith in
    let all : 1 * q ≤ p * q = mul-le-mul_right q some in
    let e : p * q - i + (q - 1) ≡ p * (q - 1 + 1) + (q - 1 - i) = omega (arith, ap (λ x. p * x) one) in
    sym (ap (div_ceil (p * q - i)) one)
    ∙ (sym (ceil_is (p * q - i) (q - 1)) ∙ (ap (λ x. x / (q - 1 + 1)) e ∙ div-mul-add p (q - 1 + 1) (q - 1 - i) (omega arith)))

-- one cell of each line
pub across_is : (p q i : ℕ) → 0 < p → i < q → IsSpan p (λ k. k * q + i) (p * q) (record { start = i; end = p * q; stride = q })
across_is p q i some h =
    let all : 1 * q ≤ p * q = mul-le-mul_right q some in
    record {
      steps = omega arith;
      ordered = omega (arith, all);
      within = omega arith;
      count = steps_across p q i some h;
      places = λ k l. omega arith;
      inside = λ k l. let more : (k + 1) * q ≤ p * q = mul-le-mul_right q (omega arith) in omega (arith, more);
    }

-- the first place of a line
pub first_place : (n : ℕ) (at : ℕ → ℕ) (len : ℕ) (s : Span) → IsSpan n at len s → 0 < n → s.start ≡ at 0
first_place n at len s h some = let first = h.places 0 some in omega (arith, first)

-- cells that are written back where they were change nothing
written_back : {T : Type 0} (start k : ℕ) (xs : List T) → start + k ≤ length xs → written_from start xs (take k (drop start xs)) ≡ xs
written_back start k xs h =
    let ws = take k (drop start xs) in
    let long : length ws ≡ k = length-take-le k (drop start xs) (omega (arith, length-drop start xs)) in
    let all : take start xs ++ (ws ++ drop (length ws) (drop start xs)) ≡ xs = ap (λ n. take start xs ++ (ws ++ drop n (drop start xs))) long ∙ (ap (λ ys. take start xs ++ ys) (take-append-drop k (drop start xs)) ∙ take-append-drop start xs) in
    ap (refill (length xs) xs) all ∙ take-append_seam xs (drop (length xs) xs)

-- the cells of a line, if it is a row of the table that is stored
module _ {T : Type 0} (o : Order) (m n : ℕ) (cells : List T) (fits : HoldsSize m n (length cells)) (s : Span) (r : ℕ) (lr : r < m) (h : IsSpan n (λ c. place o m n r c) (m * n) s) where
  pub span_within : s.end ≤ length cells
  span_within = omega (arith, h.within, fits.cells)

  pub row_is : strided s.start s.end s.stride cells ≡ row (table_of o m n cells) r
  row_is =
      let len : length (strided s.start s.end s.stride cells) ≡ n = length-line_of s.start s.end s.stride cells h.steps span_within ∙ h.count in
      same_cells _ _ (len ∙ sym (width-tabulate m n _ r (IsFull-table_of o m n cells fits.cells) lr))
      (λ c lt.
      let lc : c < n = omega (arith, len) in
      get-strided s.start s.end s.stride c cells h.steps (h.inside c lc) ∙ (ap (slice_get cells) (h.places c lc) ∙ sym (view-cell o m n cells fits r c lr lc)))

  -- the cells from its first to its end, written back
  pub span_written_back : 0 < n → written_from (place o m n r 0) cells (take (s.end - s.start) (drop s.start cells)) ≡ cells
  span_written_back some =
      let inside : s.start + (s.end - s.start) ≤ length cells = omega (arith, h.ordered, span_within) in
      ap (λ x. written_from x cells (take (s.end - s.start) (drop s.start cells))) (sym (first_place n _ _ s h some))
      ∙ written_back s.start (s.end - s.start) cells inside
