-- A transposition in place, half by half.
use Rattle.std.proofs.Common.{◌≡◌, ℕ, ◌+◌, ◌-◌, ◌*◌, ◌<◌, ◌++◌, List, length, sym, ◌∙◌, ap, arith, ⊎_elim, length-append, slice_get}
use Rattle.grid_base.proofs.Common.{cases_lt, Woven, IsTable, row_count, col_count, storage, TransposedInPlace}
use Rattle.grid_base.specs.declared.order.Order.TheVariants.{RowMajor, ColumnMajor}
use Rattle.grid_base.proofs.StorageLemmas.{get_append_left, get_append_right, get-storage, length-storage, has_place}
use Rattle.grid_base.proofs.TableLemmas.{same_cells}
use Rattle.grid_base.proofs.WeaveLemmas.{place_below}

module _ {T : Type 0} (h r q : ℕ) (old mid new fo bo fn bn : List T) (wide : length fo ≡ h * q) (tall : length bo ≡ r * q) (cut : old ≡ fo ++ bo) (joined : mid ≡ fn ++ bn) (front : TransposedInPlace h q fo fn) (back : TransposedInPlace r q bo bn) (woven : Woven q h h r mid new) where
  low : (l j : ℕ) → l < h → j < q → slice_get new (j * (h + r) + l) ≡ slice_get old (l * q + j)
  low l j lh lq =
      woven.lines.before j l lq lh lh
      ∙ (ap (λ xs. slice_get xs (j * h + l)) joined
      ∙ (get_append_left fn bn (j * h + l) (omega (arith, front.lengths, wide, place_below j h l q lq lh))
      ∙ (front.at l j lh lq
      ∙ sym (ap (λ xs. slice_get xs (l * q + j)) cut ∙ get_append_left fo bo (l * q + j) (omega (arith, wide, place_below l q j h lh lq))))))

  high : (m j : ℕ) → m < r → j < q → slice_get new (j * (h + r) + (h + m)) ≡ slice_get old ((h + m) * q + j)
  high m j lm lq =
      woven.groups j m lq lm
      ∙ (ap (λ xs. slice_get xs (q * h + (j * r + m))) joined
      ∙ (get_append_right fn bn (q * h + (j * r + m)) (j * r + m) (omega (arith, front.lengths, wide))
      ∙ (back.at m j lm lq
      ∙ sym (ap (λ xs. slice_get xs ((h + m) * q + j)) cut ∙ get_append_right fo bo ((h + m) * q + j) (m * q + j) (omega (arith, wide))))))

  pub in_place_halves : TransposedInPlace (h + r) q old new
  in_place_halves =
      record {
        lengths = woven.lengths ∙ (ap length joined ∙ (length-append fn bn ∙ omega (arith, front.lengths, back.lengths, ap length cut, length-append fo bo)));
        at = λ l j a b.
            ⊎_elim (λ lh. low l j lh b)
            (λ le.
            let e : h + (l - h) ≡ l = omega arith in
            let at : slice_get new (j * (h + r) + (h + (l - h))) ≡ slice_get old ((h + (l - h)) * q + j) = high (l - h) j (omega arith) b in
            rw e at at) (cases_lt l h);
      }

-- the same, in the forms of the goal
pub in_place_by_halves : {T : Type 0} (p h r q : ℕ) (old mid new fo bo fn bn : List T) → h + r ≡ p → length fo ≡ h * q → length bo ≡ r * q → old ≡ fo ++ bo → mid ≡ fn ++ bn → TransposedInPlace h q fo fn → TransposedInPlace r q bo bn → Woven q h h r mid new → TransposedInPlace p q old new
in_place_by_halves p h r q old mid new fo bo fn bn e wide tall cut joined front back woven =
    rw (← e) (in_place_halves h r q old mid new fo bo fn bn wide tall cut joined front back woven)

-- a transposition is undone by that of the transposed lines
pub in_place_back : {T : Type 0} (p q : ℕ) (old new : List T) → TransposedInPlace p q old new → TransposedInPlace q p new old
in_place_back p q old new h = record {
  lengths = sym h.lengths;
  at = λ l j a b. sym (h.at j l b a);
}

-- the storage of a table's columns, transposed in place, is that of its rows
pub in_place_storage : {T : Type 0} (t : List (List T)) (new : List T) → IsTable t → TransposedInPlace (col_count t) (row_count t) (storage ColumnMajor t) new → new ≡ storage RowMajor t
in_place_storage t new h in_place =
    let m = row_count t in
    let n = col_count t in
    let cells : length new ≡ m * n = omega (arith, in_place.lengths, length-storage ColumnMajor t h) in
    same_cells new (storage RowMajor t) (omega (arith, cells, length-storage RowMajor t h))
    (λ k lt.
    let p = has_place RowMajor m n k (omega arith) in
    ap (slice_get new) (sym p.is)
    ∙ (in_place.at p.c p.r p.lc p.lr
    ∙ (get-storage ColumnMajor t p.r p.c h p.lr p.lc
    ∙ (sym (get-storage RowMajor t p.r p.c h p.lr p.lc) ∙ ap (slice_get (storage RowMajor t)) p.is))))
