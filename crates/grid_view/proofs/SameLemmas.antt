-- Tables that are the same cell by cell.
use Rattle.std.proofs.Common.{◌≡◌, ◌↔◌, IsTrue, ℕ, zero, suc, ◌<◌, Bool, true, false, List, [], ◌∷◌, length, refl, sym, ◌∙◌, ap, arith, Some, slice_get}
use Rattle.grid_base.proofs.Common.{first_so, second_so, slice_get_within, pointwise, row, row_count, col_count, IsTable}
use Rattle.grid_view.specs.Same.{AreSame}

module _ {X : Type 0} (E : X → X → Bool) where
  -- all are the same, where those of each index are
  pub same_by : (xs ys : List X) → length xs ≡ length ys → ((i : ℕ) (x y : X) → slice_get xs i ≡ Some x → slice_get ys i ≡ Some y → E x y ≡ true) → pointwise E xs ys ≡ true
  same_by [] [] e h = refl
  same_by [] (y ∷ ys) e h = absurd (cc)
  same_by (x ∷ xs) [] e h = absurd (cc)
  same_by (x ∷ xs) (y ∷ ys) e h = rw (h 0 x y refl refl) (same_by xs ys (omega (arith, e)) (λ i v w p q. h (suc i) v w p q))

  -- the items of an index are the same, where all are
  pub same_at : (xs ys : List X) (i : ℕ) (x y : X) → pointwise E xs ys ≡ true → slice_get xs i ≡ Some x → slice_get ys i ≡ Some y → E x y ≡ true
  same_at [] ys i x y h p q = absurd (cc)
  same_at (a ∷ xs) [] i x y h p q = absurd (cc)
  same_at (a ∷ xs) (b ∷ ys) zero x y h p q =
      let x_is : a ≡ x = cc in
      let y_is : b ≡ y = cc in
      ap (λ v. E v y) (sym x_is) ∙ (ap (E a) (sym y_is) ∙ first_so (E a b) (pointwise E xs ys) h)
  same_at (a ∷ xs) (b ∷ ys) (suc i) x y h p q = same_at xs ys i x y (second_so (E a b) (pointwise E xs ys) h) p q

-- a row in range is an item of the table
pub row_at : {X : Type 0} (t : List (List X)) (r : ℕ) → r < row_count t → slice_get t r ≡ Some (row t r)
row_at [] r lt = absurd (omega arith)
row_at (x ∷ t) zero lt = refl
row_at (x ∷ t) (suc r) lt = row_at t r (omega arith)

-- an item of a table is its row
pub row_is : {X : Type 0} (t : List (List X)) (r : ℕ) (x : List X) → slice_get t r ≡ Some x → row t r ≡ x
row_is t r x is = let at = row_at t r (slice_get_within t r x is) in cc

-- the test of all cells is that of the rows
module _ {T : Type 0} (E : T → T → Bool) (t u : List (List T)) (h : IsTable t) (k : IsTable u) (m n : ℕ) (rows : m ≡ row_count t) (rows_too : m ≡ row_count u) (cols : n ≡ col_count t) (cols_too : n ≡ col_count u) where
  rows_same : AreSame E t u (0, m) (0, n) → pointwise (pointwise E) t u ≡ true
  rows_same a =
      same_by (pointwise E) t u (omega (arith, rows, rows_too))
      (λ r v w p q.
      let lt : r < row_count t = slice_get_within t r v p in
      let here = row_is t r v p in
      let there = row_is u r w q in
      let long : length v ≡ n = ap length (sym here) ∙ omega (arith, h.even r lt, cols) in
      let long_too : length w ≡ n = ap length (sym there) ∙ omega (arith, k.even r (omega (arith, lt, rows, rows_too)), cols_too) in
      same_by E v w (omega (arith, long, long_too))
      (λ c x y f g. a.at r c (omega arith) (omega (arith, lt, rows)) (omega arith) (omega (arith, slice_get_within v c x f, long)) x y (ap (λ l. slice_get l c) here ∙ f) (ap (λ l. slice_get l c) there ∙ g)))

  cells_same : pointwise (pointwise E) t u ≡ true → AreSame E t u (0, m) (0, n)
  cells_same e =
      record {
        at = λ r c a lt b d x y p q.
            same_at E (row t r) (row u r) c x y
            (same_at (pointwise E) t u r (row t r) (row u r) e (row_at t r (omega (arith, lt, rows))) (row_at u r (omega (arith, lt, rows_too)))) p q;
      }

  pub tells_same : (b : Bool) → IsTrue b ↔ AreSame E t u (0, m) (0, n) → b ≡ pointwise (pointwise E) t u
  tells_same b is = told b (pointwise (pointwise E) t u) refl is
    where
      told : (b p : Bool) → p ≡ pointwise (pointwise E) t u → IsTrue b ↔ AreSame E t u (0, m) (0, n) → b ≡ pointwise (pointwise E) t u
      told true p e is = sym (rows_same (is.0 refl))
      told false true e is = let yes = is.1 (cells_same (sym e)) in absurd (cc)
      told false false e is = e
