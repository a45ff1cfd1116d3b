-- Tables that are the same cell by cell and storage by storage.
use Rattle.std.proofs.Common.{◌≡◌, ◌<◌, Bool, true, false, List, length, refl, sym, ap, ◌∙◌, ◌*◌, arith, Some, slice_get}
use Rattle.grid.proofs.Common.{pointwise, row, row_count, col_count, cell, IsTable, storage, place, slice_get_within, length-storage, get-storage, has_place, row_at, row_is, same_at, same_by}
use Rattle.grid_base.specs.declared.order.Order.{Order}

bool_iff : (a b : Bool) → (a ≡ true → b ≡ true) → (b ≡ true → a ≡ true) → a ≡ b
bool_iff true b f g = sym (f refl)
bool_iff false true f g = g refl
bool_iff false false f g = refl

module _ {X : Type 0} (E : X → X → Bool) (o : Order) (t u : List (List X)) (T : IsTable t) (U : IsTable u) (rows : row_count t ≡ row_count u) (cols : col_count t ≡ col_count u) where
  rows_same : pointwise E (storage o t) (storage o u) ≡ true → pointwise (pointwise E) t u ≡ true
  rows_same h = same_by (pointwise E) t u rows (λ r x y e f.
      let lr : r < row_count t = slice_get_within t r x e in
      let x_is : row t r ≡ x = row_is t r x e in
      let y_is : row u r ≡ y = row_is u r y f in
      let x_len : length x ≡ col_count t = ap length (sym x_is) ∙ T.even r lr in
      let y_len : length y ≡ col_count u = ap length (sym y_is) ∙ U.even r (omega (arith, rows, lr)) in
      same_by E x y (x_len ∙ (cols ∙ sym y_len)) (λ c a b p q.
      let lc : c < col_count t = omega (arith, x_len, slice_get_within x c a p) in
      let here : slice_get (storage o t) (place o (row_count t) (col_count t) r c) ≡ Some a =
      get-storage o t r c T lr lc ∙ (ap (λ l. slice_get l c) x_is ∙ p) in
      let there : slice_get (storage o u) (place o (row_count t) (col_count t) r c) ≡ Some b =
      (λ k. slice_get (storage o u) (place o (rows k) (cols k) r c)) ∙ (get-storage o u r c U (omega (arith, rows, lr)) (omega (arith, cols, lc)) ∙ (ap (λ l. slice_get l c) y_is ∙ q)) in
      same_at E (storage o t) (storage o u) _ a b h here there))

  storages_same : pointwise (pointwise E) t u ≡ true → pointwise E (storage o t) (storage o u) ≡ true
  storages_same h =
      let size : length (storage o t) ≡ row_count t * col_count t = length-storage o t T in
      let long : length (storage o t) ≡ length (storage o u) = size ∙ ((λ k. rows k * cols k) ∙ sym (length-storage o u U)) in
      same_by E (storage o t) (storage o u) long (λ k a b p q.
      let at = has_place o (row_count t) (col_count t) k (omega (arith, size, slice_get_within (storage o t) k a p)) in
      let r = at.r in
      let c = at.c in
      let ur : r < row_count u = omega (arith, rows, at.lr) in
      let uc : c < col_count u = omega (arith, cols, at.lc) in
      let here : cell t r c ≡ Some a = sym (get-storage o t r c T at.lr at.lc) ∙ (ap (slice_get (storage o t)) at.is ∙ p) in
      let there : cell u r c ≡ Some b =
      sym (get-storage o u r c U ur uc) ∙ ((λ j. slice_get (storage o u) (place o (sym rows j) (sym cols j) r c)) ∙ (ap (slice_get (storage o u)) at.is ∙ q)) in
      same_at E (row t r) (row u r) c a b (same_at (pointwise E) t u r (row t r) (row u r) h (row_at t r at.lr) (row_at u r ur)) here there)

  -- tables of one size are the same exactly if what is stored of them in an order is
  pub same_stored : pointwise E (storage o t) (storage o u) ≡ pointwise (pointwise E) t u
  same_stored = bool_iff _ _ rows_same storages_same
