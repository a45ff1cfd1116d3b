-- Calls of a closure at each position of a grid and the cell there.
use Rattle.std.proofs.Common.{◌≡◌, ℕ, zero, suc, ◌<◌, List, [], ◌∷◌, ◌++◌, Some, Result, Ok, Err, length, zip, refl, sym, subst, ◌∙◌, ap, arith, is_some, IsSomeAnd, Option, None, IfOk, slice_get, unwrap_or, length-append, Bor}
use Rattle.grid.proofs.Common.{AllZip, unwrap_or-slice_get, row_count, col_count, cell, InRange, IsSize, tabulate, table_of, place, positions, PairsUp, CallableAtCells, CallableAtItems, ReturnsAtCell, FailsFirst, GridValue, HoldsSize, FitsUsize, IsFull, tabulate-same, cell-tabulate, place_within, has_place, mul-le, get_append_left, get_append_right, get-places, length-places, zip_within, get-zip, view-rows, view-cols, view-cell, CallableAtPositions, MappedBy, IsMade, CallableOver, MadeBy, FailsAt, grid_value}
use Rattle.grid_base.specs.declared.order.Order.{Order}
use Rattle.grid.proofs.SeenLemmas.{seen_rows, seen_cols}

pub record ItemAt {T : Type 0} (xs : List T) (k : ℕ) : Type 0 where
  pub x : T
  pub is : slice_get xs k ≡ Some x

pub item_at : {T : Type 0} (xs : List T) (k : ℕ) → k < length xs → ItemAt xs k
item_at [] k lt = absurd (omega arith)
item_at (x ∷ xs) zero lt = record { x = x; is = refl }
item_at (x ∷ xs) (suc k) lt = let i = item_at xs k (omega arith) in record { x = i.x; is = i.is }

record AnswerAt {A B : Type 0} (R : A → B → Type 0) (x : A) (ys : List B) (k : ℕ) : Type 0 where
  pub y : B
  pub is : slice_get ys k ≡ Some y
  pub by : R x y

answer_at : {A B : Type 0} (R : A → B → Type 0) (xs : List A) (ys : List B) (k : ℕ) (x : A) → AllZip R xs ys → slice_get xs k ≡ Some x → AnswerAt R x ys k
answer_at R [] [] k x a e = absurd (cc)
answer_at R [] (b ∷ ys) k x a e = absurd a
answer_at R (c ∷ xs) [] k x a e = absurd a
answer_at R (c ∷ xs) (b ∷ ys) zero x a e = let same : c ≡ x = cc in record { y = b; is = refl; by = subst (λ z. R z b) same a.0 }
answer_at R (c ∷ xs) (b ∷ ys) (suc k) x a e = let i = answer_at R xs ys k x a.1 e in record { y = i.y; is = i.is; by = i.by }

module _ {A : Type 0} (o : Order) (m n : ℕ) (cells : List A) (v : GridValue A) (h : HoldsSize m n (length cells)) (e : grid_value o m n cells h ≡ v) where
  -- the cell of the value at a position
  pub seen_cell : (r c : ℕ) → r < m → c < n → cell v.rows r c ≡ slice_get cells (place o m n r c)
  seen_cell r c lr lc = sym (ap (λ x. cell x.rows r c) e) ∙ view-cell o m n cells h r c lr lc

  pub seen_in : (r c : ℕ) → r < m → c < n → InRange v.rows r c
  seen_in r c lr lc = (omega (arith, seen_rows o m n cells v h e), omega (arith, seen_cols o m n cells v h e))

  -- a closure that can be called at each position of the table can be called along the vector
  pub seen_callable : {F : Type 0} (takes : F → ℕ × ℕ → Bor A → Type 0) (f : F) → CallableAtPositions takes f v.rows → CallableAtCells takes f (zip (positions o m n) cells)
  seen_callable {F} takes f can = record {
    at = λ k at p lt is.
        let below : k < length cells = omega (arith, zip_within (positions o m n) cells) in
        let w = has_place o m n k (omega (arith, h.cells)) in
        let i = item_at cells k below in
        let there : slice_get (positions o m n) k ≡ Some (w.r, w.c) = ap (slice_get (positions o m n)) (sym w.is) ∙ get-places o m n w.r w.c h.size w.lr w.lc in
        let pair : slice_get (zip (positions o m n) cells) k ≡ Some ((w.r, w.c), i.x) = get-zip (positions o m n) cells k (w.r, w.c) i.x there i.is in
        let same : ◌≡◌ {A = (ℕ × ℕ) × A} (at, p.now) ((w.r, w.c), i.x) =
        is ∙ (sym (unwrap_or-slice_get (zip (positions o m n) cells) k (at, p.now)) ∙ ap (λ z. unwrap_or z (at, p.now)) pair) in
        let same_cell : p.now ≡ i.x = ap (λ z. z.1) same in
        let same_at : at ≡ (w.r, w.c) = ap (λ z. z.0) same in
        let old : cell v.rows w.r w.c ≡ Some p.now =
        seen_cell w.r w.c w.lr w.lc ∙ (ap (slice_get cells) w.is ∙ (i.is ∙ ap Some (sym same_cell))) in
        subst (λ z. takes f z p) (sym same_at) (can w.r w.c p (seen_in w.r w.c w.lr w.lc) old);
  }

  module _ {F B : Type 0} (returns : F → ℕ × ℕ → Bor A → B → Type 0) (f : F) (news : List B) (len : length news ≡ length cells) (a : PairsUp (ReturnsAtCell returns f) (zip (positions o m n) cells) news) where
    record Called (r c : ℕ) : Type 0 where
      pub y : B
      pub p : Bor A
      pub is : slice_get news (place o m n r c) ≡ Some y
      pub old : cell v.rows r c ≡ Some p.now
      pub says : returns f (r, c) p y

    called : (r c : ℕ) → r < m → c < n → Called r c
    called r c lr lc =
        let k = place o m n r c in
        let i = item_at cells k (omega (arith, place_within o m n r c lr lc, h.cells)) in
        let pair = get-zip (positions o m n) cells k (r, c) i.x (get-places o m n r c h.size lr lc) i.is in
        let w = answer_at (ReturnsAtCell returns f) (zip (positions o m n) cells) news k ((r, c), i.x) a.places pair in
        record {
          y = w.y;
          p = w.by.shown;
          is = w.is;
          old = seen_cell r c lr lc ∙ (i.is ∙ ap Some (sym w.by.shows));
          says = w.by.says;
        }

    -- the new table is what the answers determine
    seen_tabulated : (g : ℕ → ℕ → Option B) → ((r c : ℕ) (p : Bor A) (y : B) → InRange v.rows r c → cell v.rows r c ≡ Some p.now → returns f (r, c) p y → g r c ≡ Some y) → table_of o m n news ≡ tabulate (row_count v.rows) (col_count v.rows) g
    seen_tabulated g by =
        let same : (r c : ℕ) → r < m → c < n → g r c ≡ slice_get news (place o m n r c) =
        λ r c lr lc. let w = called r c lr lc in by r c w.p w.y (seen_in r c lr lc) w.old w.says ∙ sym w.is in
        let full : IsFull m n g = record { full = λ r c lr lc. let w = called r c lr lc in ap is_some (by r c w.p w.y (seen_in r c lr lc) w.old w.says) } in
        let made : table_of o m n news ≡ tabulate m n g = tabulate-same m n (λ r c. slice_get news (place o m n r c)) g (λ r c lr lc. sym (same r c lr lc)) full in
        made ∙ (ap (λ x. tabulate x n g) (sym (seen_rows o m n cells v h e)) ∙ ap (λ x. tabulate (row_count v.rows) x g) (sym (seen_cols o m n cells v h e)))

    -- each of its cells is an answer
    seen_answered : (r c : ℕ) → InRange v.rows r c → IsSomeAnd (cell (table_of o m n news) r c) (λ y. (p : Bor A) × (cell v.rows r c ≡ Some p.now) × returns f (r, c) p y)
    seen_answered r c within =
        let w = called r c (omega (arith, within.0, seen_rows o m n cells v h e)) (omega (arith, within.1, seen_cols o m n cells v h e)) in
        let fits : HoldsSize m n (length news) = subst (HoldsSize m n) (sym len) h in
        let is : cell (table_of o m n news) r c ≡ Some w.y =
        view-cell o m n news fits r c (omega (arith, within.0, seen_rows o m n cells v h e)) (omega (arith, within.1, seen_cols o m n cells v h e)) ∙ w.is in
        subst (λ z. IsSomeAnd z (λ y. (p : Bor A) × (cell v.rows r c ≡ Some p.now) × returns f (r, c) p y)) (sym is) (w.p, w.old, w.says)

    pub seen_mapped : MappedBy returns f v.rows (table_of o m n news)
    seen_mapped = record { tabulated = seen_tabulated; answers = seen_answered }

-- what is at the length of the first part
pub at_seam : {X : Type 0} (xs : List X) (x : X) (ys : List X) → slice_get (xs ++ x ∷ ys) (length xs) ≡ Some x
at_seam xs x ys = get_append_right xs (x ∷ ys) (length xs) 0 (omega arith)

module _ (o : Order) (m n : ℕ) (z : IsSize m n) where
  -- a closure that can be called at each position can be called along the positions
  pub callable_positions : {F : Type 0} (takes : F → ℕ × ℕ → Type 0) (f : F) → FitsUsize m n → CallableOver takes f m n → CallableAtItems takes f (positions o m n)
  callable_positions {F} takes f fits can = record {
    at = λ k at lt is.
        let w = has_place o m n k (omega (arith, length-places o m n z)) in
        let there : slice_get (positions o m n) k ≡ Some (w.r, w.c) = ap (slice_get (positions o m n)) (sym w.is) ∙ get-places o m n w.r w.c z w.lr w.lc in
        let same : at ≡ (w.r, w.c) = is ∙ (sym (unwrap_or-slice_get (positions o m n) k at) ∙ ap (λ x. unwrap_or x at) there) in
        subst (takes f) (sym same) (can w.r w.c w.lr w.lc fits);
  }

  -- the table of answers along the positions is what they determine
  answers_tabulated : {F T : Type 0} (returns : F → ℕ × ℕ → T → Type 0) (f : F) (cells : List T) → PairsUp (returns f) (positions o m n) cells → (h : ℕ → ℕ → Option T) → ((r c : ℕ) (y : T) → r < m → c < n → returns f (r, c) y → h r c ≡ Some y) → 0 < m → 0 < n → table_of o m n cells ≡ tabulate m n h
  answers_tabulated {T = T} returns f cells a h by _ _ =
      let called : (r c : ℕ) → r < m → c < n → AnswerAt (returns f) (r, c) cells (place o m n r c) =
      λ r c lr lc. answer_at (returns f) (positions o m n) cells (place o m n r c) (r, c) a.places (get-places o m n r c z lr lc) in
      let given : (r c : ℕ) (lr : r < m) (lc : c < n) → h r c ≡ Some (called r c lr lc).y = λ r c lr lc. by r c (called r c lr lc).y lr lc (called r c lr lc).by in
      let full : IsFull m n h = record { full = λ r c lr lc. ap is_some (given r c lr lc) } in
      tabulate-same m n (λ r c. slice_get cells (place o m n r c)) h (λ r c lr lc. (called r c lr lc).is ∙ sym (given r c lr lc)) full

  -- each of its cells is an answer
  answers_over : {F T : Type 0} (returns : F → ℕ × ℕ → T → Type 0) (f : F) (cells : List T) → PairsUp (returns f) (positions o m n) cells → (r c : ℕ) → r < m → c < n → IsSomeAnd (cell (table_of o m n cells) r c) (λ y. returns f (r, c) y)
  answers_over {T = T} returns f cells a r c lr lc =
      let called : (r c : ℕ) → r < m → c < n → AnswerAt (returns f) (r, c) cells (place o m n r c) =
      λ r c lr lc. answer_at (returns f) (positions o m n) cells (place o m n r c) (r, c) a.places (get-places o m n r c z lr lc) in
      let full : IsFull m n (λ r c. slice_get cells (place o m n r c)) = record { full = λ r c lr lc. ap is_some (called r c lr lc).is } in
      let w = called r c lr lc in
      let is : cell (table_of o m n cells) r c ≡ Some w.y = cell-tabulate m n _ r c full lr lc ∙ w.is in
      subst (λ x. IsSomeAnd x (λ y. returns f (r, c) y)) (sym is) w.by

  pub answers_made : {F T : Type 0} (returns : F → ℕ × ℕ → T → Type 0) (f : F) (cells : List T) → PairsUp (returns f) (positions o m n) cells → MadeBy returns f m n (table_of o m n cells)
  answers_made returns f cells a = record { tabulated = answers_tabulated returns f cells a; answers = answers_over returns f cells a }

  -- what failed first along the positions failed first in storage order
  pub fails_at : {B E : Type 0} (returns : ℕ × ℕ → Result B E → Type 0) (e : E) → FailsFirst returns (positions o m n) e → FailsAt returns o m n e
  fails_at {B} returns e h =
      let k = length h.done in
      let below : k < length (positions o m n) = omega (arith, ap length h.split, length-append h.done (h.at ∷ h.rest)) in
      let w = has_place o m n k (omega (arith, length-places o m n z)) in
      let there : slice_get (positions o m n) k ≡ Some (w.r, w.c) = ap (slice_get (positions o m n)) (sym w.is) ∙ get-places o m n w.r w.c z w.lr w.lc in
      let here : slice_get (positions o m n) k ≡ Some h.at = ap (λ l. slice_get l k) (sym h.split) ∙ at_seam h.done h.at h.rest in
      let same : h.at ≡ (w.r, w.c) = cc in
      record {
        r = w.r;
        c = w.c;
        row_in = w.lr;
        col_in = w.lc;
        fails = subst (λ p. returns p (Err e)) same h.fails;
        before = λ i j li lj lt.
            let p = place o m n i j in
            let early : slice_get h.done p ≡ Some (i, j) =
            sym (get_append_left h.done (h.at ∷ h.rest) p (omega (arith, w.is))) ∙ (ap (λ l. slice_get l p) h.split ∙ get-places o m n i j z li lj) in
            let a = answer_at (λ x y. returns x (Ok y)) h.done h.answers p (i, j) h.before early in
            (a.y, a.by);
      }

pub some_and_map : {B : Type 0} (o : Option B) {P Q : B → Type 0} → ((y : B) → P y → Q y) → IsSomeAnd o P → IsSomeAnd o Q
some_and_map None f h = h
some_and_map (Some y) f h = f y h

-- a table of what a closure returns is one of what another returns that passes its answers on
pub mapped_as : {F G A B V E : Type 0} (t : List (List A)) (rows : V → List (List B)) (P : F → ℕ × ℕ → Bor A → B → Type 0) (f : F) (Q : G → ℕ × ℕ → Bor A → B → Type 0) (g : G) (made : Result V E) → IfOk made (λ v. MappedBy P f t (rows v)) → ((r c : ℕ) (p : Bor A) (y : B) → InRange t r c → cell t r c ≡ Some p.now → P f (r, c) p y → Q g (r, c) p y) → IfOk made (λ v. MappedBy Q g t (rows v))
mapped_as t rows P f Q g (Ok v) h says = record {
  tabulated = λ k by. h.tabulated k (λ r c p y within is said. by r c p y within is (says r c p y within is said));
  answers = λ r c within. some_and_map (cell (rows v) r c) (λ y w. (w.0, w.1, says r c w.0 y within w.1 w.2)) (h.answers r c within);
}
mapped_as t rows P f Q g (Err e) h says = tt

-- a grid of the size that was asked for
pub seen_made : {T : Type 0} (o : Order) (m n : ℕ) (cells : List T) (h : HoldsSize m n (length cells)) → 0 < m → 0 < n → IsMade o m n (grid_value o m n cells h)
seen_made o m n cells h some_rows some_cols = record {
  order = refl;
  size = record {
    none = λ e. absurd (omega (arith, mul-le m 1 m n (omega arith) (omega (arith, some_cols))));
    rows = λ _. view-rows o m n cells h;
    cols = λ _. view-cols o m n cells h;
  };
}
