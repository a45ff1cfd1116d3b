-- What the plain edits of a table leave, row by row.
use Rattle.std.proofs.Common.{◌≡◌, ℕ, zero, suc, ◌+◌, ◌<◌, ◌≤◌, List, [], ◌∷◌, ◌++◌, length, map, take, drop, replicate, get_or, set, insert, refl, sym, ◌∙◌, ap, arith}
use Rattle.grid.specs.Prelude.{with_cell, filled, insert_rows, insert_into_rows}
use Rattle.std.proofs.lemmas.List.{take-map, drop-map, map-append, map-set, get_or-map, get_or_default, length-map, map_more}
use Rattle.std.proofs.lemmas.Simd.{splat_is_map}

module _ {T : Type 0} where
  -- one more cell of a line put into its row
  put-suc : (at : ℕ) (xs : List T) (t : List (List T)) (i : ℕ) (d : T) (r : List T) → i < length xs → i < length t → insert_into_rows at (take (suc i) xs) t ≡ insert_into_rows at (take i xs) t ++ insert (get_or t i r) at (get_or xs i d) ∷ []
  put-suc at [] t i d r h k = absurd (omega arith)
  put-suc at (x ∷ xs) [] i d r h k = absurd (omega arith)
  put-suc at (x ∷ xs) (v ∷ t) zero d r h k = refl
  put-suc at (x ∷ xs) (v ∷ t) (suc i) d r h k = ap (λ u. insert v at x ∷ u) (put-suc at xs t i d r (omega arith) (omega arith))

  -- cells past the last row are left out
  past-suc : (at : ℕ) (xs : List T) (t : List (List T)) (i : ℕ) → length t ≤ i → insert_into_rows at (take (suc i) xs) t ≡ insert_into_rows at (take i xs) t
  past-suc at [] t zero h = refl
  past-suc at [] t (suc i) h = refl
  past-suc at (x ∷ xs) [] zero h = refl
  past-suc at (x ∷ xs) [] (suc i) h = refl
  past-suc at (x ∷ xs) (v ∷ t) zero h = absurd (omega arith)
  past-suc at (x ∷ xs) (v ∷ t) (suc i) h = ap (λ u. insert v at x ∷ u) (past-suc at xs t i (omega arith))

  module _ {V : Type 0} (f : V → List T) where
    at-place : (vs : List V) (i : ℕ) (v : V) (d : List T) → i < length vs → v ≡ get_or vs i v → get_or (map f vs) i d ≡ f v
    at-place vs i v d h e =
        let h2 : i < length (map f vs) = omega (arith, h, length-map vs f) in
        get_or_default (map f vs) i d (f v) h2 ∙ (get_or-map f vs i v (f v) h ∙ ap f (sym e))

    -- the rows so far, and the row into which the next cell is put
    pub put-grown : (at : ℕ) (xs : List T) (vs us news : List V) (i : ℕ) (x : T) (v u : V) → i < length xs → x ≡ get_or xs i x → i < length vs → v ≡ get_or vs i v → map f us ≡ insert_into_rows at (take i xs) (map f vs) → f u ≡ insert (f v) at x → news ≡ us ++ u ∷ [] → map f news ≡ insert_into_rows at (take (i + 1) xs) (map f vs)
    put-grown at xs vs us news i x v u h is k e so_far made grown =
        let on : i + 1 ≡ suc i = omega arith in
        let k2 : i < length (map f vs) = omega (arith, k, length-map vs f) in
        ap (map f) grown ∙ (map-append f us (u ∷ [])
        ∙ (ap (λ a. a ++ f u ∷ []) so_far
        ∙ (ap (λ a. insert_into_rows at (take i xs) (map f vs) ++ a ∷ []) (made ∙ (ap (λ a. insert a at x) (sym (at-place vs i v [] k e)) ∙ ap (insert (get_or (map f vs) i []) at) is))
        ∙ (sym (put-suc at xs (map f vs) i x [] h k2) ∙ ap (λ n. insert_into_rows at (take n xs) (map f vs)) (sym on)))))

    pub put-past : (at : ℕ) (xs : List T) (vs us : List V) (i : ℕ) → length vs ≤ i → map f us ≡ insert_into_rows at (take i xs) (map f vs) → map f us ≡ insert_into_rows at (take (i + 1) xs) (map f vs)
    put-past at xs vs us i h so_far =
        let on : i + 1 ≡ suc i = omega arith in
        so_far ∙ (sym (past-suc at xs (map f vs) i (omega (arith, h, length-map vs f))) ∙ ap (λ n. insert_into_rows at (take n xs) (map f vs)) (sym on))

    -- a cell written in its row
    pub cell-written : (vs : List V) (r c : ℕ) (v u : V) (w : T) → r < length vs → v ≡ get_or vs r v → f u ≡ set (f v) c w → map f (set vs r u) ≡ with_cell (map f vs) r c w
    cell-written vs r c v u w h e made =
        map-set f vs r u ∙ ap (set (map f vs) r) (made ∙ ap (λ a. set a c w) (sym (at-place vs r v [] h e)))

    -- a row put between the rows before a place and those from it on
    pub row-put : (i : ℕ) (vs front back start a b news : List V) (line : List T) (u : V) → front ≡ take i vs → back ≡ drop i vs → start ≡ [] → map f a ≡ map f start ++ map f front → f u ≡ line → b ≡ a ++ u ∷ [] → map f news ≡ map f b ++ map f back → map f news ≡ insert_rows i (line ∷ []) (map f vs)
    row-put i vs front back start a b news line u ef eb es ea eu el en =
        en ∙ (ap (λ x. map f x ++ map f back) el
        ∙ (ap (λ x. x ++ map f back) (map-append f a (u ∷ []))
        ∙ (ap (λ x. x ++ f u ∷ [] ++ map f back) (ea ∙ (ap (λ x. map f x ++ map f front) es ∙ (ap (map f) ef ∙ sym (take-map f i vs))))
        ∙ (ap (λ x. take i (map f vs) ++ x ∷ [] ++ map f back) eu
        ∙ ap (λ x. take i (map f vs) ++ line ∷ [] ++ x) (ap (map f) eb ∙ sym (drop-map f i vs))))))

    -- rows of one value, to which the next is added
    pub fill-grown : (w : T) (vs us news : List V) (i : ℕ) (v u : V) → i < length vs → v ≡ get_or vs i v → map f us ≡ filled w (map f (take i vs)) → f u ≡ replicate (length (f v)) w → news ≡ us ++ u ∷ [] → map f news ≡ filled w (map f (take (i + 1) vs))
    fill-grown w vs us news i v u h e so_far made grown =
        let line = map {A = T} {B = T} (λ _. w) in
        ap (map f) grown ∙ (map-append f us (u ∷ [])
        ∙ (ap (λ a. a ++ f u ∷ []) so_far
        ∙ (ap (λ a. filled w (map f (take i vs)) ++ a ∷ []) (made ∙ (splat_is_map (f v) (length (f v)) w refl ∙ ap (λ a. line (f a)) e))
        ∙ sym (ap (filled w) (map_more f vs i v h) ∙ map-append line (map f (take i vs)) (f (get_or vs i v) ∷ [])))))
