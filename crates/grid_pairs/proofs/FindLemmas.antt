-- Where a pattern stands: the empty one first at the first position, any other where its first cell is.
use Rattle.std.proofs.Common.{◌≡◌, ◌∙◌, ◌⊎◌, ℕ, ◌+◌, ◌<◌, ◌≤◌, Bool, true, IsTrue, List, [], ◌∷◌, Some, refl, sym, ap, subst, arith, inl, inr, ⊎_elim}
use lib.Pointwise.{pointwise}
use Rattle.grid_base.proofs.Common.{cases_lt, nil_from_length, row, row_count, col_count, cell, IsTable}
use Rattle.grid_base.proofs.TableLemmas.{IsFull, IsFull-cells, rows-tabulate, cell-tabulate}
use Rattle.grid_view.specs.View.{sub_table}
use Rattle.grid_view.proofs.SameLemmas.{same_at, row_at}
use Rattle.grid_pairs.specs.Found.{StandsIn, StandsFirst}

-- a table with a column has a row
pub tall_of : {T : Type 0} (p : List (List T)) → 0 < col_count p → 0 < row_count p
tall_of [] wide = absurd (omega (arith, wide))
tall_of (xs ∷ p) wide = omega arith

-- where a pattern with a cell stands, the cell is the same as its first
pub first_same : {T : Type 0} (same : T → T → Bool) (t p : List (List T)) (r c : ℕ) (x y : T) → IsTable t → 0 < col_count p → StandsIn same t p r c → cell t r c ≡ Some x → cell p 0 0 ≡ Some y → same x y ≡ true
first_same same t p r c x y table wide s here there =
    let h = row_count p in
    let w = col_count p in
    let tall : 0 < row_count p = tall_of p wide in
    let u = sub_table t (r, c) (h, w) in
    let full : IsFull h w (λ i j. cell t (r + i) (c + j)) = record { full = λ i j li lj. (IsFull-cells t table).full (r + i) (c + j) (omega (arith, s.rows, li)) (omega (arith, s.cols, lj)) } in
    let r_is : r + 0 ≡ r = omega arith in
    let c_is : c + 0 ≡ c = omega arith in
    let first : cell u 0 0 ≡ Some x =
    cell-tabulate h w (λ i j. cell t (r + i) (c + j)) 0 0 full tall wide
    ∙ (ap (λ k. cell t k (c + 0)) r_is ∙ (ap (λ k. cell t r k) c_is ∙ here)) in
    same_at same (row u 0) (row p 0) 0 x y
    (same_at (pointwise same) u p 0 (row u 0) (row p 0) s.cells
    (row_at u 0 (omega (arith, rows-tabulate h w (λ i j. cell t (r + i) (c + j)), tall)))
    (row_at p 0 tall))
    first there

pub empty_first : {T : Type 0} (same : T → T → Bool) (t p : List (List T)) → p ≡ [] → StandsFirst same t p (0, 0)
empty_first {T} same t p e =
    let none : List (List T) = [] in
    let nothing : sub_table t (0, 0) (0, 0) ≡ [] = nil_from_length _ (rows-tabulate 0 0 _) in
    let first : StandsFirst same t none (0, 0) = record {
      stands = record { rows = omega arith; cols = omega arith; cells = subst (λ u. IsTrue (pointwise (pointwise same) u none)) (sym nothing) refl };
      before = λ r c s. ⊎_elim {C = (0 < r) ⊎ ((0 ≡ r) × (0 ≤ c))} (λ lt. inl lt) (λ le. inr (omega (arith, le), omega arith)) (cases_lt 0 r);
    } in
    subst (λ q. StandsFirst same t q (0, 0)) (sym e) first
