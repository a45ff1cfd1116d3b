-- Rows of a stored table that are rewritten one after another.
use Rattle.std.proofs.Common.{◌≡◌, ◌≢◌, ℕ, zero, suc, ◌+◌, ◌-◌, ◌*◌, ◌^◌, ◌<◌, ◌≤◌, List, [], ◌∷◌, ◌++◌, length, take, drop, get_or, map, set, refl, sym, ap, ◌∙◌, subst, arith, inl, inr, ⊎_elim, add-one, drop-cons, length-append, length-drop, length-take, ext_get_or, get_or-set_same, get_or-set_other, length-set, take_all, drop-set-lt, mul-le-mul_right, MutBor, slice_get}
use Rattle.grid_base.proofs.Common.{cases_lt, eqb_tells, take_more, take_more_set, Mut, Called, CalledAtMut, refill, mid_of, put_mid, MapsThrough, MapsTo, GridValue, HoldsSize, place, storage, table_of, row, row_count, col_count}
use Rattle.grid.proofs.ExchangeLemmas.{refilled}
use Rattle.grid_base.specs.declared.order.Order.{Order}
use Rattle.grid_base.specs.declared.order.Order.TheVariants.{RowMajor}
use Rattle.grid_lines.specs.Rewritten.{AreRewritten}
use Rattle.grid_base.proofs.ClosureLemmas.{MapsThrough-append}
use Rattle.grid_base.proofs.StorageLemmas.{length-storage, width-table_of, get-take, get-drop, get_append_left, get_append_right}
use Rattle.grid_base.proofs.TableLemmas.{same_cells, IsSize-table}
use Rattle.grid_base.proofs.ViewLemmas.{view-rows, view-cols, view-table, view-cell, view-storage, same_by_storage}

-- the closure went from f to g over the first lines, and left those of now; the lines ahead are as they were
pub record Rewriting {F X : Type 0} (step : F → X → X → F → Type 0) (f : F) (old : List X) (line : ℕ) (g : F) (now : List X) : Type 0 where
  pub count : length now ≡ length old
  pub ahead : drop line now ≡ drop line old
  pub calls : MapsThrough step f (take line old) (take line now) g

module _ {F X : Type 0} (step : F → X → X → F → Type 0) (f : F) (old : List X) where
  -- one more line
  pub rewriting_more : (line : ℕ) (g h : F) (now : List X) (x y d : X) → Rewriting step f old line g now → line < length old → x ≡ get_or now line d → step g x y h → Rewriting step f old (line + 1) h (set now line y)
  rewriting_more line g h now x y d w lt is call =
      let here : line < length now = omega (arith, w.count) in
      let both : get_or now line d ∷ drop (suc line) now ≡ get_or old line d ∷ drop (suc line) old = sym (drop-cons now line d here) ∙ (w.ahead ∙ drop-cons old line d lt) in
      let same : get_or now line d ≡ get_or old line d = cc in
      let later : drop (suc line) now ≡ drop (suc line) old = cc in
      let later_on : drop (line + 1) now ≡ drop (line + 1) old = rw add-one later in
      let taken : take (line + 1) old ≡ take line old ++ x ∷ [] = take_more old line d lt ∙ ap (λ z. take line old ++ z ∷ []) (sym same ∙ sym is) in
      record {
        count = length-set now line y ∙ w.count;
        ahead = drop-set-lt (line + 1) now line y (omega arith) ∙ later_on;
        calls = rw (taken, take_more_set now line y here) (MapsThrough-append step f g h (take line old) (take line now) x y w.calls call);
      }

  -- all lines
  pub rewriting_all : (line : ℕ) (g : F) (now : List X) → Rewriting step f old line g now → length old ≤ line → MapsTo step f old now
  rewriting_all line g now w all =
      let olds : take line old ≡ old = take_all line old all in
      let news : take line now ≡ now = take_all line now (omega (arith, w.count)) in
      record { last = g; calls = subst (λ l. MapsThrough step f l now g) olds (subst (λ l. MapsThrough step f (take line old) l g) news w.calls) }

-- what a closure that stays as it is leaves of the lines
pub rewritten_by : {F X : Type 0} (step : F → X → X → F → Type 0) (f : F) (change : X → X) → ((x y : X) (g : F) → step f x y g → (y ≡ change x) × (g ≡ f)) → (old new : List X) → MapsTo step f old new → new ≡ map change old
rewritten_by {F} {X} step f change says old new m = through old new f refl m.calls
  where
    through : (xs ys : List X) (p : F) → p ≡ f → MapsThrough step p xs ys m.last → ys ≡ map change xs
    through [] [] p same a = refl
    through [] (y ∷ ys) p same a = absurd a
    through (x ∷ xs) [] p same a = absurd a
    through (x ∷ xs) (y ∷ ys) p same a =
        let one = says x y a.0 (subst (λ q. step q x y a.0) same a.1) in
        λ i. one.0 i ∷ through xs ys a.0 one.1 a.2 i

-- cells of which those of row r have become y
module _ {T : Type 0} (o : Order) (m n : ℕ) (old new y : List T) (r : ℕ) (h : HoldsSize m n (length old)) (lr : r < m) (len : length new ≡ length old) (wide : length y ≡ n) (written : (c : ℕ) → c < n → slice_get new (place o m n r c) ≡ slice_get y c) (others : (i c : ℕ) → i < m → c < n → i ≢ r → slice_get new (place o m n i c) ≡ slice_get old (place o m n i c)) where
  holds : HoldsSize m n (length new)
  holds = subst (HoldsSize m n) (sym len) h

  width : (cells : List T) (k : HoldsSize m n (length cells)) (i : ℕ) → i < m → length (row (table_of o m n cells) i) ≡ n
  width cells k i lt = width-table_of o m n cells k.cells i lt

  row_written : row (table_of o m n new) r ≡ y
  row_written = same_cells _ _ (width new holds r lr ∙ sym wide) (λ c lt.
      let lc : c < n = omega (arith, width new holds r lr) in
      view-cell o m n new holds r c lr lc ∙ written c lc)

  row_same : (i : ℕ) → i < m → i ≢ r → row (table_of o m n new) i ≡ row (table_of o m n old) i
  row_same i lt ne = same_cells _ _ (width new holds i lt ∙ sym (width old h i lt)) (λ c l.
      let lc : c < n = omega (arith, width new holds i lt) in
      view-cell o m n new holds i c lt lc ∙ (others i c lt lc ne ∙ sym (view-cell o m n old h i c lt lc)))

  pub row_rewritten : table_of o m n new ≡ set (table_of o m n old) r y
  row_rewritten =
      let t = table_of o m n old in
      let count : length t ≡ m = view-rows o m n old h in
      ext_get_or [] _ _ (view-rows o m n new holds ∙ (sym count ∙ sym (length-set t r y)))
      (λ i l.
      let lt : i < m = omega (arith, view-rows o m n new holds) in
      elim (eqb_tells i r) [
        | inl e ↦ subst (λ k. get_or (table_of o m n new) k [] ≡ get_or (set t r y) k []) (sym e.1) (row_written ∙ sym (get_or-set_same t r y [] (omega (arith, count))))
        | inr e ↦ row_same i lt e.1 ∙ sym (get_or-set_other t r i y [] e.1)
      ])

-- a row of a row-major table, whose k cells are side by side
module _ {T : Type 0} (m n r k : ℕ) (cells : List T) (h : HoldsSize m n (length cells)) (lr : r < m) (all : k ≡ n) where
  pub along_within : r * n + n ≤ length cells
  along_within = let w : (r + 1) * n ≤ m * n = mul-le-mul_right n (omega arith) in omega (arith, w, h.cells)

  pub along_wide : length (mid_of (r * n) k cells) ≡ n
  along_wide = omega (arith, length-take k (drop (r * n) cells), length-drop (r * n) cells, along_within)

  pub row_along : mid_of (r * n) k cells ≡ row (table_of RowMajor m n cells) r
  row_along =
      same_cells _ _ (along_wide ∙ sym (width-table_of RowMajor m n cells h.cells r lr)) (λ c lt.
      let lc : c < n = omega (arith, along_wide) in
      get-take k (drop (r * n) cells) c (omega arith) ∙ (get-drop (r * n) cells (r * n + c) c refl ∙ sym (view-cell RowMajor m n cells h r c lr lc)))

  module _ (y : List T) (wide : length y ≡ n) where
    front_long : length (take (r * n) cells) ≡ r * n
    front_long = omega (arith, length-take (r * n) cells, along_within)

    pub along_long : length (put_mid (r * n) k cells y) ≡ length cells
    along_long = omega (arith, length-append (take (r * n) cells) (y ++ drop k (drop (r * n) cells)), length-append y (drop k (drop (r * n) cells)), length-drop k (drop (r * n) cells), length-drop (r * n) cells, front_long, along_within, wide)

    written : (c : ℕ) → c < n → slice_get (put_mid (r * n) k cells y) (r * n + c) ≡ slice_get y c
    written c lc =
        get_append_right (take (r * n) cells) (y ++ drop k (drop (r * n) cells)) (r * n + c) c (omega (arith, front_long))
        ∙ get_append_left y (drop k (drop (r * n) cells)) c (omega (arith, wide))

    others : (i c : ℕ) → i < m → c < n → i ≢ r → slice_get (put_mid (r * n) k cells y) (i * n + c) ≡ slice_get cells (i * n + c)
    others i c li lc ne = ⊎_elim
        (λ low.
        let w : (i + 1) * n ≤ r * n = mul-le-mul_right n (omega arith) in
        let p : i * n + c < r * n = omega (arith, w) in
        get_append_left (take (r * n) cells) (y ++ drop k (drop (r * n) cells)) (i * n + c) (omega (arith, front_long, p)) ∙ get-take (r * n) cells (i * n + c) p)
        (λ ge.
        let w : (r + 1) * n ≤ i * n = mul-le-mul_right n (omega (arith, ne)) in
        let p : r * n + n ≤ i * n + c = omega (arith, w) in
        get_append_right (take (r * n) cells) (y ++ drop k (drop (r * n) cells)) (i * n + c) (i * n + c - r * n) (omega (arith, front_long, p))
        ∙ (get_append_right y (drop k (drop (r * n) cells)) (i * n + c - r * n) (i * n + c - r * n - k) (omega (arith, wide, p))
        ∙ (get-drop k (drop (r * n) cells) (i * n + c - r * n) (i * n + c - r * n - k) (omega (arith, p))
        ∙ get-drop (r * n) cells (i * n + c) (i * n + c - r * n) (omega (arith, p)))))
        (cases_lt i r)

    pub along_rewritten : table_of RowMajor m n (put_mid (r * n) k cells y) ≡ set (table_of RowMajor m n cells) r y
    along_rewritten = row_rewritten RowMajor m n cells (put_mid (r * n) k cells y) y r h lr along_long wide written others

-- a closure whose calls are known, called at a line
pub calls_change : {F T : Type 0} (g : Mut F (MutBor (List T) × Unit {0}) (Unit {0} × (MutBor (List T) × Unit {0}))) (f : F) (change : List T → List T) → ((line left : MutBor (List T)) (h : F) → Called g f (line, tt) (tt, (left, tt)) h → (left.now ≡ change line.now) × (h ≡ f)) → (x y : List T) (h : F) → CalledAtMut g f x tt h y → (y ≡ change x) × (h ≡ f)
calls_change g f change says x y h k =
    let one = says k.shown k.left h k.called in
    (sym k.leaves ∙ (one.0 ∙ ap change k.shows), one.1)

-- the rows of a grid, whose storage a call rewrote as those of a table
module _ {F T : Type 0} (step : F → List T → List T → F → Type 0) (f : F) (v : GridValue T) (o : Order) (m n : ℕ) (now : List T) (order_is : v.order ≡ o) (rows_are : m ≡ row_count v.rows) (cols_are : n ≡ col_count v.rows) (stored : now ≡ storage v.order v.rows) (below : row_count v.rows * col_count v.rows < 2 ^ 64) where
  pub stored_size : HoldsSize m n (length now)
  stored_size = rw (rows_are, cols_are)
      (record { cells = ap length stored ∙ length-storage v.order v.rows v.table; below = below; size = IsSize-table v.rows v.table })

  rows_stored : table_of o m n now ≡ v.rows
  rows_stored = same_by_storage o _ v.rows (view-table o m n now stored_size) v.table (view-cols o m n now stored_size ∙ cols_are)
      (view-storage o m n now stored_size ∙ (stored ∙ ap (λ x. storage x v.rows) order_is))

  pub stored_rewritten : (new : List T) → length new ≡ length now → MapsTo step f (table_of o m n now) (table_of o m n new) → MapsTo step f v.rows (table_of v.order (row_count v.rows) (col_count v.rows) (refill (length (storage v.order v.rows)) (storage v.order v.rows) new))
  stored_rewritten new len made =
      let cells : refill (length (storage v.order v.rows)) (storage v.order v.rows) new ≡ new = refilled (storage v.order v.rows) new (len ∙ ap length stored) in
      rw (cells, order_is, ← rows_are, ← cols_are) (subst (λ t. MapsTo step f t (table_of o m n new)) rows_stored made)

-- what R says of each call, it says of each row
pub rewritten_each : {F T : Type 0} (g : Mut F (MutBor (List T) × Unit {0}) (Unit {0} × (MutBor (List T) × Unit {0}))) (f : F) (R : List T → List T → Type 0) → ((p : F) (line left : MutBor (List T)) (q : F) → Called g p (line, tt) (tt, (left, tt)) q → R line.now left.now) → (old new : List (List T)) → AreRewritten g f old new → (r : ℕ) → r < length old → R (row old r) (row new r)
rewritten_each {F} {T} g f R says old new m = through old new f m.calls
  where
    through : (xs ys : List (List T)) (p : F) → MapsThrough (λ p x y q. CalledAtMut g p x tt q y) p xs ys m.last → (r : ℕ) → r < length xs → R (row xs r) (row ys r)
    through [] ys p a r lt = absurd (omega arith)
    through (x ∷ xs) [] p a r lt = absurd a
    through (x ∷ xs) (y ∷ ys) p a zero lt =
        let k = a.1 in
        subst (λ l. R x l) k.leaves (subst (λ l. R l k.left.now) k.shows (says p k.shown k.left a.0 k.called))
    through (x ∷ xs) (y ∷ ys) p a (suc r) lt = through xs ys a.0 a.2 r (omega arith)
