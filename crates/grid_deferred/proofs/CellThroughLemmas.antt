-- Cells read, written, exchanged and filled, through the flip of the rows and the transpose.
use Rattle.std.proofs.Common.{◌≡◌, ℕ, ◌-◌, ◌<◌, Option, Some, None, List, [], ◌∷◌, ◌++◌, length, map, reverse, replicate, set, get_or, refl, sym, ◌∙◌, ap, arith, ⊎_elim, slice_get, length-set, get_or-set_same, get_or-set_other, lt-ltb, le-ltb}
use Rattle.grid_deferred.proofs.Common.{length-reverse, length-map, get_or-reverse, get_or-map, get_or_past, reverse-append, length-replicate, map-append, cases_lt, cases_eq, row, row_count, col_count, cell, IsTable, with_cell, with_cell_of, exchanged, tabulate, act, symmetry_of, splat_is_map, same_lists, get-replicate, IsTable-act, rows-written, widths-written, cols-with_cell, IsTable-with_cell, cell-with_same, cell-with_other, rows-with_cell_of, cols-with_cell_of, IsTable-with_cell_of, product, act-act, act-identity, act_all-is, symmetry_of-product_from, filled, rows-across, cols-across, cell-cross, across_by_cells, mirrored_line}
use Rattle.grid_base.specs.declared.words.Symmetry.{Symmetry}
use Rattle.grid_base.specs.declared.words.Symmetry.TheVariants.{Identity, FlipRows, Transpose}
use Rattle.grid_deferred.proofs.MirrorLemmas.{flip_rows-is}

-- an element written to a reversed list
set-mirrored : {X : Type 0} (xs : List X) (k : ℕ) (y : X) → k < length xs → set (reverse xs) k y ≡ reverse (set xs (length xs - 1 - k) y)
set-mirrored xs k y lt =
    let n = length xs in
    let len : length (set xs (n - 1 - k) y) ≡ n = length-set xs (n - 1 - k) y in
    same_lists _ _
    (length-set (reverse xs) k y ∙ (length-reverse xs ∙ sym (length-reverse (set xs (n - 1 - k) y) ∙ len)))
    (λ j d l.
    let lj : j < n = omega (arith, length-set (reverse xs) k y, length-reverse xs) in
    let other : get_or (reverse (set xs (n - 1 - k) y)) j d ≡ get_or (set xs (n - 1 - k) y) (n - 1 - j) d =
    get_or-reverse (set xs (n - 1 - k) y) j d (omega arith) ∙ ap (λ x. get_or (set xs (n - 1 - k) y) (x - 1 - j) d) len in
    ⊎_elim (λ e.
    let at : n - 1 - j ≡ n - 1 - k = ap (λ x. n - 1 - x) e in
    ap (λ x. get_or (set (reverse xs) k y) x d) e
    ∙ (get_or-set_same (reverse xs) k y d (omega (arith, length-reverse xs))
    ∙ sym (other ∙ (ap (λ x. get_or (set xs (n - 1 - k) y) x d) at ∙ get_or-set_same xs (n - 1 - k) y d (omega arith)))))
    (λ ne.
    get_or-set_other (reverse xs) k j y d ne
    ∙ (get_or-reverse xs j d lj
    ∙ sym (other ∙ get_or-set_other xs (n - 1 - k) (n - 1 - j) y d (λ e. ne (omega (arith, e))))))
    (cases_eq j k))

pub map-reversed : {X Y : Type 0} (f : X → Y) (xs : List X) → map f (reverse xs) ≡ reverse (map f xs)
map-reversed f [] = refl
map-reversed f (x ∷ xs) =
    ap (map f) (reverse-append (x ∷ []) xs)
    ∙ (map-append f (reverse xs) (x ∷ []) ∙ (ap (λ v. v ++ f x ∷ []) (map-reversed f xs) ∙ sym (reverse-append (f x ∷ []) (map f xs))))

module _ {T : Type 0} where
  -- a row of the reversed table
  pub row-mirrored : (t : List (List T)) (r : ℕ) → row (reverse t) r ≡ row t (mirrored_line (row_count t) r)
  row-mirrored t r =
      ⊎_elim (λ lt. rw (lt-ltb r (row_count t) lt) (get_or-reverse t r [] lt))
      (λ le. rw (le-ltb r (row_count t) le) (get_or_past (reverse t) r [] (omega (arith, length-reverse t)) ∙ sym (get_or_past t r [] le)))
      (cases_lt r (row_count t))

  pub cell-flip : (t : List (List T)) → IsTable t → (r c : ℕ) → cell (act FlipRows t) r c ≡ cell t (mirrored_line (row_count t) r) c
  cell-flip t h r c = ap (λ v. cell v r c) (flip_rows-is t h) ∙ ap (λ v. slice_get v c) (row-mirrored t r)

  pub set-flip : (t : List (List T)) → IsTable t → (r c : ℕ) (w : T) → r < row_count t → with_cell (act FlipRows t) r c w ≡ act FlipRows (with_cell t (mirrored_line (row_count t) r) c w)
  set-flip t h r c w lr =
      let p = mirrored_line (row_count t) r in
      let at : p ≡ row_count t - 1 - r = rw (lt-ltb r (row_count t) lr) refl in
      ap (λ v. with_cell v r c w) (flip_rows-is t h)
      ∙ (ap (λ v. set (reverse t) r (set v c w)) (row-mirrored t r)
      ∙ (set-mirrored t r (set (row t p) c w) lr
      ∙ (ap (λ x. reverse (set t x (set (row t p) c w))) (sym at) ∙ sym (flip_rows-is (with_cell t p c w) (IsTable-with_cell t h p c w)))))

  pub set-cross : (t : List (List T)) → IsTable t → (r c : ℕ) (w : T) → r < col_count t → c < row_count t → with_cell (act Transpose t) r c w ≡ act Transpose (with_cell t c r w)
  set-cross t h r c w lr lc =
      let v = act Transpose t in
      let hv = IsTable-act Transpose t h in
      let u = with_cell t c r w in
      let m : row_count v ≡ col_count t = rows-across t h in
      let n : col_count v ≡ row_count t = cols-across t h in
      across_by_cells (with_cell v r c w) u (IsTable-with_cell t h c r w)
      (rows-written v r c w ∙ (m ∙ sym (cols-with_cell t h c r w)))
      (λ i lt. widths-written v hv r c w i (omega (arith, rows-written v r c w)) ∙ (n ∙ sym (rows-written t c r w)))
      (λ i li j lj.
      ⊎_elim (λ e.
      ⊎_elim (λ f.
      ap (λ x. cell (with_cell v r c w) x j) e ∙ (ap (cell (with_cell v r c w) r) f
      ∙ (cell-with_same v hv r c w (omega arith) (omega arith)
      ∙ sym (ap (cell u j) e ∙ (ap (λ x. cell u x r) f ∙ cell-with_same t h c r w lc lr)))))
      (λ ne. cell-with_other v r c w i j (λ _. ne) ∙ (cell-cross t h i j ∙ sym (cell-with_other t c r w j i (λ k. absurd (ne k)))))
      (cases_eq j c))
      (λ ne. cell-with_other v r c w i j (λ k. absurd (ne k)) ∙ (cell-cross t h i j ∙ sym (cell-with_other t c r w j i (λ _. ne))))
      (cases_eq i r))

  -- the same with a cell that may be missing
  of-flip : (t : List (List T)) → IsTable t → (r c : ℕ) (o : Option T) → r < row_count t → with_cell_of (act FlipRows t) r c o ≡ act FlipRows (with_cell_of t (mirrored_line (row_count t) r) c o)
  of-flip t h r c None lr = refl
  of-flip t h r c (Some w) lr = set-flip t h r c w lr

  of-cross : (t : List (List T)) → IsTable t → (r c : ℕ) (o : Option T) → r < col_count t → c < row_count t → with_cell_of (act Transpose t) r c o ≡ act Transpose (with_cell_of t c r o)
  of-cross t h r c None lr lc = refl
  of-cross t h r c (Some w) lr lc = set-cross t h r c w lr lc

  pub IsTable-exchanged : (t : List (List T)) → IsTable t → (p q : ℕ × ℕ) → IsTable (exchanged t p q)
  IsTable-exchanged t h p q = IsTable-with_cell_of (with_cell_of t p.0 p.1 (cell t q.0 q.1)) (IsTable-with_cell_of t h p.0 p.1 (cell t q.0 q.1)) q.0 q.1 (cell t p.0 p.1)

  pub swap-flip : (t : List (List T)) → IsTable t → (p q : ℕ × ℕ) → p.0 < row_count t → q.0 < row_count t → exchanged (act FlipRows t) p q ≡ act FlipRows (exchanged t (mirrored_line (row_count t) p.0, p.1) (mirrored_line (row_count t) q.0, q.1))
  swap-flip t h p q lp lq =
      let m = row_count t in
      let u = with_cell_of t (mirrored_line m p.0) p.1 (cell t (mirrored_line m q.0) q.1) in
      let hu = IsTable-with_cell_of t h (mirrored_line m p.0) p.1 (cell t (mirrored_line m q.0) q.1) in
      let len : row_count u ≡ m = rows-with_cell_of t h (mirrored_line m p.0) p.1 (cell t (mirrored_line m q.0) q.1) in
      ap (λ o. with_cell_of (with_cell_of (act FlipRows t) p.0 p.1 o) q.0 q.1 (cell (act FlipRows t) p.0 p.1)) (cell-flip t h q.0 q.1)
      ∙ (ap (λ o. with_cell_of (with_cell_of (act FlipRows t) p.0 p.1 (cell t (mirrored_line m q.0) q.1)) q.0 q.1 o) (cell-flip t h p.0 p.1)
      ∙ (ap (λ v. with_cell_of v q.0 q.1 (cell t (mirrored_line m p.0) p.1)) (of-flip t h p.0 p.1 (cell t (mirrored_line m q.0) q.1) lp)
      ∙ (of-flip u hu q.0 q.1 (cell t (mirrored_line m p.0) p.1) (omega arith)
      ∙ ap (λ k. act FlipRows (with_cell_of u (mirrored_line k q.0) q.1 (cell t (mirrored_line m p.0) p.1))) len)))

  pub swap-cross : (t : List (List T)) → IsTable t → (p q : ℕ × ℕ) → p.0 < col_count t → p.1 < row_count t → q.0 < col_count t → q.1 < row_count t → exchanged (act Transpose t) p q ≡ act Transpose (exchanged t (p.1, p.0) (q.1, q.0))
  swap-cross t h p q lp kp lq kq =
      let u = with_cell_of t p.1 p.0 (cell t q.1 q.0) in
      let hu = IsTable-with_cell_of t h p.1 p.0 (cell t q.1 q.0) in
      let rows : row_count u ≡ row_count t = rows-with_cell_of t h p.1 p.0 (cell t q.1 q.0) in
      let cols : col_count u ≡ col_count t = cols-with_cell_of t h p.1 p.0 (cell t q.1 q.0) in
      ap (λ o. with_cell_of (with_cell_of (act Transpose t) p.0 p.1 o) q.0 q.1 (cell (act Transpose t) p.0 p.1)) (cell-cross t h q.0 q.1)
      ∙ (ap (λ o. with_cell_of (with_cell_of (act Transpose t) p.0 p.1 (cell t q.1 q.0)) q.0 q.1 o) (cell-cross t h p.0 p.1)
      ∙ (ap (λ v. with_cell_of v q.0 q.1 (cell t p.1 p.0)) (of-cross t h p.0 p.1 (cell t q.1 q.0) lp kp)
      ∙ of-cross u hu q.0 q.1 (cell t p.1 p.0) (omega arith) (omega arith)))

  module _ (v : T) (t : List (List T)) (h : IsTable t) where
    rows-filled : row_count (filled v t) ≡ row_count t
    rows-filled = length-map t (λ r. map (λ _. v) r)

    row-filled : (r : ℕ) → r < row_count t → row (filled v t) r ≡ replicate (col_count t) v
    row-filled r lt = get_or-map (λ r. map (λ _. v) r) t r [] [] lt ∙ (sym (splat_is_map (row t r) (length (row t r)) v refl) ∙ ap (λ n. replicate n v) (h.even r lt))

    width-filled : (r : ℕ) → r < row_count t → length (row (filled v t) r) ≡ col_count t
    width-filled r lt = ap length (row-filled r lt) ∙ length-replicate (col_count t) v

    pub IsTable-filled : IsTable (filled v t)
    IsTable-filled =
        record {
          nonempty = λ r lt. omega (arith, width-filled r (omega (arith, rows-filled)), h.nonempty 0 (omega (arith, rows-filled)));
          even = λ r lt. width-filled r (omega (arith, rows-filled)) ∙ sym (width-filled 0 (omega (arith, rows-filled)));
        }

    cols-filled : col_count (filled v t) ≡ col_count t
    cols-filled =
        ⊎_elim (λ some. width-filled 0 some)
        (λ none. ap length (get_or_past (filled v t) 0 [] (omega (arith, rows-filled))) ∙ sym (ap length (get_or_past t 0 [] none)))
        (cases_lt 0 (row_count t))

  pub fill-flip : (v : T) (t : List (List T)) → IsTable t → filled v (act FlipRows t) ≡ act FlipRows (filled v t)
  fill-flip v t h =
      ap (filled v) (flip_rows-is t h) ∙ (map-reversed (λ r. map (λ _. v) r) t ∙ sym (flip_rows-is (filled v t) (IsTable-filled v t h)))

  pub fill-cross : (v : T) (t : List (List T)) → IsTable t → filled v (act Transpose t) ≡ act Transpose (filled v t)
  fill-cross v t h =
      let u = act Transpose t in
      let hu = IsTable-act Transpose t h in
      across_by_cells (filled v u) (filled v t) (IsTable-filled v t h)
      (rows-filled v u hu ∙ (rows-across t h ∙ sym (cols-filled v t h)))
      (λ r lt. width-filled v u hu r (omega (arith, rows-filled v u hu)) ∙ (cols-across t h ∙ sym (rows-filled v t h)))
      (λ r lr c lc.
      let a : r < row_count u = omega (arith, rows-across t h, cols-filled v t h) in
      let b : c < row_count t = omega (arith, rows-filled v t h) in
      ap (λ x. slice_get x c) (row-filled v u hu r a)
      ∙ (get-replicate (col_count u) v c (omega (arith, cols-across t h))
      ∙ sym (ap (λ x. slice_get x r) (row-filled v t h c b) ∙ get-replicate (col_count t) v r (omega (arith, cols-filled v t h)))))

  pub none-flip : ◌≡◌ {A = List (List T)} (act FlipRows []) []
  unfolding act tabulate
  none-flip = refl

-- a symmetry that is its own inverse, between two of it
pub apply-through : {T : Type 0} (g u : Symmetry) (t : List (List T)) → IsTable t → product g g ≡ Identity → act u (act g t) ≡ act g (act (symmetry_of (g ∷ u ∷ g ∷ [])) t)
apply-through g u t h own =
    let ss = g ∷ u ∷ g ∷ [] in
    let v = act u (act g t) in
    let hv = IsTable-act u (act g t) (IsTable-act g t h) in
    let all : act (symmetry_of ss) t ≡ act g v = ap (λ s. act s t) (symmetry_of-product_from ss) ∙ sym (act_all-is ss t h) in
    sym (ap (act g) all ∙ (act-act g g v hv ∙ (ap (λ s. act s v) own ∙ act-identity v hv)))
