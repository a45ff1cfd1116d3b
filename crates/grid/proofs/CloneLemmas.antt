-- Clones of the cells of a storage, seen as a table.
use Rattle.std.proofs.Common.{◌≡◌, ℕ, zero, suc, ◌+◌, ◌*◌, ◌<◌, ◌≤◌, Option, Some, None, List, [], ◌∷◌, length, map, ap, arith, subst, filter_map, slice_get}
use Rattle.grid.proofs.Common.{range_with_len, cons_option, AllZip, same_from_all_zip, cells_by, tabulate, place, table_of, GridValue, HoldsSize, place_within, grid_value, IsGridClone}
use Rattle.grid_base.specs.declared.order.Order.{Order}
use Rattle.grid.proofs.SeenLemmas.{seen_same}

module _ {A B : Type 0} (R : A → B → Type 0) where
  -- both are there, and related
  abbrev BothAre : Option A → Option B → Type 0
  BothAre (Some x) (Some y) = R x y
  BothAre (Some x) None = ⊥
  BothAre None p = ⊥

  zip_cons : (o : Option A) (p : Option B) (xs : List A) (ys : List B) → BothAre o p → AllZip R xs ys → AllZip R (cons_option o xs) (cons_option p ys)
  zip_cons (Some x) (Some y) xs ys b a = (b, a)
  zip_cons (Some x) None xs ys b a = absurd b
  zip_cons None p xs ys b a = absurd b

  zip_at : (xs : List A) (ys : List B) (k : ℕ) → AllZip R xs ys → k < length xs → BothAre (slice_get xs k) (slice_get ys k)
  zip_at [] [] k a lt = absurd (omega arith)
  zip_at [] (y ∷ ys) k a lt = absurd a
  zip_at (x ∷ xs) [] k a lt = absurd a
  zip_at (x ∷ xs) (y ∷ ys) zero a lt = a.0
  zip_at (x ∷ xs) (y ∷ ys) (suc k) a lt = zip_at xs ys k a.1 (omega arith)

  zip_from : (f : ℕ → Option A) (g : ℕ → Option B) (a n : ℕ) → ((j : ℕ) → a ≤ j → j < a + n → BothAre (f j) (g j)) → AllZip R (filter_map f (range_with_len a n)) (filter_map g (range_with_len a n))
  zip_from f g a zero h = tt
  zip_from f g a (suc n) h =
      zip_cons (f a) (g a) _ _ (h a (omega arith) (omega arith)) (zip_from f g (a + 1) n (λ j lo hi. h j (omega arith) (omega arith)))

  zip_line : (f : ℕ → Option A) (g : ℕ → Option B) (n : ℕ) → ((j : ℕ) → j < n → BothAre (f j) (g j)) → AllZip R (cells_by n f) (cells_by n g)
  unfolding cells_by
  zip_line f g n h = zip_from f g 0 n (λ j lo hi. h j (omega arith))

zip_map : {X Y : Type 0} (R : X → Y → Type 0) (f : ℕ → X) (g : ℕ → Y) (a n : ℕ) → ((j : ℕ) → a ≤ j → j < a + n → R (f j) (g j)) → AllZip R (map f (range_with_len a n)) (map g (range_with_len a n))
zip_map R f g a zero h = tt
zip_map R f g a (suc n) h = (h a (omega arith) (omega arith), zip_map R f g (a + 1) n (λ j lo hi. h j (omega arith) (omega arith)))

module _ {T : Type 0} (R : T → T → Type 0) (o : Order) (m n : ℕ) (cells news : List T) where
  -- related storages are tables of related rows
  pub zip_table : length cells ≡ m * n → AllZip R cells news → AllZip (AllZip R) (table_of o m n cells) (table_of o m n news)
  unfolding tabulate
  zip_table e a =
      zip_map (AllZip R) _ _ 0 m (λ r lo hi.
      zip_line R _ _ n (λ c lt.
      let within = place_within o m n r c (omega arith) lt in
      zip_at R cells news (place o m n r c) a (omega (arith, e, within))))

  -- a grid of clones of the cells is a clone of the grid
  pub clone_seen : (s : GridValue T) (h : HoldsSize m n (length cells)) (k : HoldsSize m n (length news)) → grid_value o m n cells h ≡ s → AllZip R cells news → IsGridClone R s (grid_value o m n news k)
  clone_seen s h k e a = record {
    rows = subst (λ x. AllZip (AllZip R) x.rows (table_of o m n news)) e (zip_table h.cells a);
    order = ap (λ x. x.order) e;
    same = λ equal. seen_same o m n cells s h e news k (same_from_all_zip R cells news a equal);
  }
