-- The slots of an array of rows are emptied one by one, in the order of a storage.
use Rattle.std.proofs.Common.{◌≡◌, ◌≢◌, ℕ, ◌+◌, ◌*◌, ◌<◌, ◌≤◌, Option, Some, None, List, [], ◌∷◌, ◌++◌, length, get_or, is_some, true, false, refl, sym, ◌∙◌, ap, arith, ⊎_elim, length-append, subst, slice_get, option_map, length-set, mul_comm}
use Rattle.grid.proofs.Common.{list_all, get_or_past, list_all_at, get_or_from_slice_get, slice_get_within, cases_eq, cases_lt, row, cell, with_cell, IsTable, place, storage, get-storage, place_within, get_append_left, get_append_right, same_place, cell-written, cell-with_other, HasSize, by_order, are_full, HoldCells}
use Rattle.grid_base.specs.declared.order.Order.{Order}
use Rattle.grid_base.specs.declared.order.Order.TheVariants.{RowMajor, ColumnMajor}

-- of m rows of n slots, those whose place in the storage is below k were taken
pub record Emptying {T : Type 0} (o : Order) (m n k : ℕ) (old now : List (List (Option T))) (taken : List T) : Type 0 where
  pub count : length taken ≡ k
  pub rows : length now ≡ m
  pub gone : (r c : ℕ) → r < m → c < n → place o m n r c < k → cell now r c ≡ Some None
  pub stays : (r c : ℕ) → r < m → c < n → k ≤ place o m n r c → cell now r c ≡ cell old r c
  pub held : (r c : ℕ) → r < m → c < n → place o m n r c < k → cell old r c ≡ option_map Some (slice_get taken (place o m n r c))

-- one more slot is emptied
pub emptying_more : {T : Type 0} (o : Order) (m n k r c : ℕ) (old now : List (List (Option T))) (taken : List T) (x : T) → r < m → c < n → place o m n r c ≡ k → cell now r c ≡ Some (Some x) → Emptying o m n k old now taken → Emptying o m n (k + 1) old (with_cell now r c None) (taken ++ x ∷ [])
emptying_more {T} o m n k r c old now taken x lr lc at there h =
    let in_rows : r < length now = omega (arith, h.rows) in
    let in_row : c < length (row now r) = slice_get_within (row now r) c (Some x) there in
    let one : (i j : ℕ) → i < m → j < n → place o m n i j ≢ k → i ≡ r → j ≢ c =
    λ i j li lj ne ei ej. ne (ap (λ y. place o m n y j) ei ∙ (ap (λ y. place o m n r y) ej ∙ at)) in
    record {
      count = length-append taken (x ∷ []) ∙ omega (arith, h.count);
      rows = length-set now r _ ∙ h.rows;
      gone = λ i j li lj lt.
          ⊎_elim (λ e.
          let s = same_place o m n i j r c li lj lr lc (e ∙ sym at) in
          ap (λ y. cell (with_cell now r c None) y j) s.0 ∙ (ap (λ y. cell (with_cell now r c None) r y) s.1 ∙ cell-written now r c None in_rows in_row))
          (λ ne. cell-with_other now r c None i j (one i j li lj ne) ∙ h.gone i j li lj (omega arith))
          (cases_eq (place o m n i j) k);
      stays = λ i j li lj ge. cell-with_other now r c None i j (one i j li lj (λ e. omega arith)) ∙ h.stays i j li lj (omega arith);
      held = λ i j li lj lt.
          ⊎_elim (λ e.
          let s = same_place o m n i j r c li lj lr lc (e ∙ sym at) in
          let before : cell old i j ≡ Some (Some x) =
          sym (h.stays i j li lj (omega arith)) ∙ (ap (λ y. cell now y j) s.0 ∙ (ap (λ y. cell now r y) s.1 ∙ there)) in
          let last : slice_get (taken ++ x ∷ []) (place o m n i j) ≡ Some x =
          ap (slice_get (taken ++ x ∷ [])) (e ∙ sym h.count) ∙ get_append_right taken (x ∷ []) (length taken) 0 (omega arith) in
          before ∙ sym (ap (option_map Some) last))
          (λ ne.
          let small : place o m n i j < length taken = omega (arith, h.count) in
          h.held i j li lj (omega arith) ∙ sym (ap (option_map Some) (get_append_left taken (x ∷ []) (place o m n i j) small)))
          (cases_eq (place o m n i j) k);
    }

-- the slots held the cells of the table whose storage was taken
pub held_all : {T : Type 0} (o : Order) (m n k : ℕ) (old now : List (List (Option T))) (taken : List T) (t : List (List T)) → Emptying o m n k old now taken → ((r c : ℕ) → r < m → c < n → place o m n r c < k) → IsTable t → storage o t ≡ taken → HasSize m n t → HoldCells m n old t
held_all o m n k old now taken t h all table stored size = λ r c lr lc.
    let some : m * n ≢ 0 = λ e. omega (arith, place_within o m n r c lr lc) in
    let rows = size.rows some in
    let cols = size.cols some in
    let at : slice_get taken (place o m n r c) ≡ cell t r c =
    rw (← rows, ← cols, ← stored) (get-storage o t r c table (omega arith) (omega arith)) in
    h.held r c lr lc (all r c lr lc) ∙ ap (option_map Some) at

-- a slot is not empty where all are full
pub full_slot : {T : Type 0} (slots : List (List (Option T))) (r c : ℕ) → are_full slots ≡ true → cell slots r c ≢ Some None
full_slot {T} slots r c full e =
    let lc : c < length (row slots r) = slice_get_within (row slots r) c None e in
    let lr : r < length slots = ⊎_elim (λ lt. lt) (λ ge. absurd (omega (arith, ap length (get_or_past slots r [] ge)))) (cases_lt r (length slots)) in
    let none : is_some (get_or (row slots r) c None) ≡ false = ap is_some (get_or_from_slice_get (row slots r) c None None e) in
    let line : list_all is_some (row slots r) ≡ false = list_all_at is_some (row slots r) c None lc none in
    let whole : are_full slots ≡ false = list_all_at (λ x. list_all is_some x) slots r [] lr line in
    let no : true ≡ false = sym full ∙ whole in
    cc

-- place j of line i is that of a slot
pub record IsSlot (o : Order) (m n k r c : ℕ) : Type 0 where
  pub lr : r < m
  pub lc : c < n
  pub is : place o m n r c ≡ k

pub slot_by_order : (o : Order) (m n i j : ℕ) (size at : ℕ × ℕ) → size ≡ by_order o m n → at ≡ by_order o i j → i < size.0 → j < size.1 → IsSlot o m n (i * size.1 + j) at.0 at.1
slot_by_order RowMajor m n i j size at e f li lj =
    let rows = ap (λ p. p.0) e in
    let cols = ap (λ p. p.1) e in
    let r = ap (λ p. p.0) f in
    let c = ap (λ p. p.1) f in
    record { lr = omega arith; lc = omega arith; is = ap (λ x. x * n + at.1) r ∙ (ap (λ x. i * n + x) c ∙ ap (λ x. i * x + j) (sym cols)) }
slot_by_order ColumnMajor m n i j size at e f li lj =
    let rows = ap (λ p. p.1) e in
    let cols = ap (λ p. p.0) e in
    let r = ap (λ p. p.0) f in
    let c = ap (λ p. p.1) f in
    record { lr = omega arith; lc = omega arith; is = ap (λ x. x * m + at.0) c ∙ (ap (λ x. i * m + x) r ∙ ap (λ x. i * x + j) (sym rows)) }

pub product_by_order : (o : Order) (m n : ℕ) (size : ℕ × ℕ) → size ≡ by_order o m n → size.0 * size.1 ≡ m * n
product_by_order RowMajor m n size e = ap (λ p. p.0 * p.1) e
product_by_order ColumnMajor m n size e = ap (λ p. p.0 * p.1) e ∙ mul_comm n m

pub emptying_none : {T : Type 0} (o : Order) (m n k : ℕ) (old : List (List (Option T))) (taken : List T) → k ≡ 0 → length taken ≡ 0 → length old ≡ m → Emptying o m n k old old taken
emptying_none o m n k old taken e none rows = record {
  count = none ∙ sym e;
  rows = rows;
  gone = λ r c lr lc lt. absurd (omega arith);
  stays = λ r c lr lc ge. refl;
  held = λ r c lr lc lt. absurd (omega arith);
}

pub emptying_at : {T : Type 0} (o : Order) (m n k l : ℕ) (old now : List (List (Option T))) (taken : List T) → k ≡ l → Emptying o m n k old now taken → Emptying o m n l old now taken
emptying_at {T} o m n k l old now taken e h = let P : ℕ → Type 0 = λ x. Emptying o m n x old now taken in subst P e h

pub emptying_next : {T : Type 0} (o : Order) (m n k l r c : ℕ) (old now new : List (List (Option T))) (taken news : List T) (x : T) → IsSlot o m n k r c → l ≡ k + 1 → cell now r c ≡ Some (Some x) → new ≡ with_cell now r c None → news ≡ taken ++ x ∷ [] → Emptying o m n k old now taken → Emptying o m n l old new news
emptying_next {T} o m n k l r c old now new taken news x slot e there cells items h =
    rw (e, cells, items) (emptying_more o m n k r c old now taken x slot.lr slot.lc slot.is there h)
