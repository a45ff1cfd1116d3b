-- Which cells equal one: the size of that table, and its cells.
use Rattle.std.proofs.Common.{◌≡◌, ℕ, ◌+◌, ◌^◌, ◌<◌, Bool, true, Option, None, Some, List, length, refl, sym, ◌∙◌, ap, arith, ⊎_elim, option_map}
use Rattle.grid_paths.proofs.Common.{cases_lt, slice_get_past, row, row_count, col_count, cell, IsTable, tabulate, IsFull, IsFull-cells, rows-tabulate, cell-tabulate, cell_past_rows, cell_past_cols, cell_in_range, IsOpen, alike, mapped_there}

module _ {X Y : Type 0} (f : X → Y) (t : List (List X)) (table : IsTable t) where
  answer : ℕ → ℕ → Option Y
  answer r c = option_map f (cell t r c)

  full : IsFull (row_count t) (col_count t) answer
  unfolding answer
  full = record { full = λ r c lr lc. mapped_there f (cell t r c) ((IsFull-cells t table).full r c lr lc) }

  by : (r c : ℕ) → cell (tabulate (row_count t) (col_count t) answer) r c ≡ answer r c
  unfolding answer
  by r c =
      ⊎_elim (λ lr.
      ⊎_elim (λ lc. cell-tabulate (row_count t) (col_count t) answer r c full lr lc)
      (λ ge.
      let even : length (row t r) ≡ length (row t 0) = table.even r lr in
      let none : cell t r c ≡ None = slice_get_past (row t r) c (omega arith) in
      cell_past_cols (row_count t) (col_count t) answer r c full lr ge ∙ sym (ap (λ o. option_map f o) none))
      (cases_lt c (col_count t)))
      (λ ge.
      let none : cell t r c ≡ None = cell_past_rows t r c ge in
      cell_past_rows (tabulate (row_count t) (col_count t) answer) r c (omega (arith, rows-tabulate (row_count t) (col_count t) answer))
      ∙ sym (ap (λ o. option_map f o) none))
      (cases_lt r (row_count t))

  pub mapped-cell : (r c : ℕ) → cell (tabulate (row_count t) (col_count t) (λ r c. option_map f (cell t r c))) r c ≡ option_map f (cell t r c)
  unfolding answer
  mapped-cell r c = by r c

module _ {X : Type 0} (eq : X → X → Bool) (x : X) (t : List (List X)) (table : IsTable t) where
  pub alike-cell : (r c : ℕ) → cell (alike eq x t) r c ≡ option_map (λ y. eq y x) (cell t r c)
  alike-cell r c = mapped-cell (λ y. eq y x) t table r c

  pub open_alike : (a : ℕ × ℕ) (y : X) → cell t a.0 a.1 ≡ Some y → eq y x ≡ true → IsOpen (alike eq x t) a
  open_alike a y e f =
      alike-cell a.0 a.1 ∙ (ap (λ o. option_map (λ y. eq y x) o) e ∙ ap Some f)

  some_true : (o : Option X) → option_map (λ y. eq y x) o ≡ Some true → (y : X) × (o ≡ Some y) × (eq y x ≡ true)
  some_true None e = absurd (cc)
  some_true (Some y) e = let f : eq y x ≡ true = cc in (y, refl, f)

  pub alike_open : (a : ℕ × ℕ) → IsOpen (alike eq x t) a → (y : X) × (cell t a.0 a.1 ≡ Some y) × (eq y x ≡ true)
  alike_open a h = some_true (cell t a.0 a.1) (sym (alike-cell a.0 a.1) ∙ h)

  -- an open position is one that a grid can have
  pub alike_fits : row_count t < 2 ^ 64 → col_count t < 2 ^ 64 → (b : ℕ × ℕ) → IsOpen (alike eq x t) b → (b.0 + 1 < 2 ^ 64) × (b.1 + 1 < 2 ^ 64)
  alike_fits rows cols b o =
      let v = alike_open b o in
      let i = cell_in_range t table b.0 b.1 v.0 v.1 in
      let lr = i.0 in
      let lc = i.1 in
      (omega arith, omega arith)
