-- A grid that is made at the size of a table by a closure that is called at the cells there.
use Rattle.std.proofs.Common.{◌≡◌, ℕ, zero, suc, ◌<◌, List, Some, Option, Result, Ok, Err, IfOk, sym, subst, ◌∙◌, ap, arith, IfErr, Bor}
use Rattle.grid.proofs.Common.{row_count, col_count, cell, InRange, IsSize, tabulate, GridValue, SameSizeAndOrder, IsSize-table, MappedBy, HasSize, IsMade, MadeBy, FailsAt}
use Rattle.grid_base.specs.declared.order.Order.{Order}
use Rattle.grid.proofs.CellCallLemmas.{some_and_map}

module _ {B : Type 0} where
  sized_rows : (m n : ℕ) (u : List (List B)) → IsSize m n → HasSize m n u → row_count u ≡ m
  sized_rows zero n u s h = ap row_count (h.none (omega arith))
  sized_rows (suc m) n u s h = let some : 0 < n = s.has_cols (omega arith) in h.rows (λ e. omega arith)

  sized_cols : (m n : ℕ) (u : List (List B)) → IsSize m n → HasSize m n u → col_count u ≡ n
  sized_cols m zero u s h = ap col_count (h.none (omega arith))
  sized_cols m (suc n) u s h = let some : 0 < m = s.has_rows (omega arith) in h.cols (λ e. omega arith)

  sized_none : (m n : ℕ) (u : List (List B)) (h : ℕ → ℕ → Option B) → IsSize m n → HasSize m n u → (0 < m → 0 < n → u ≡ tabulate m n h) → u ≡ tabulate m n h
  unfolding tabulate
  sized_none zero n u h s size is = size.none (omega arith)
  sized_none (suc m) n u h s size is = is (omega arith) (s.has_cols (omega arith))

-- what holds at a size holds at an equal one
moved : (H : ℕ → ℕ → Type 0) {m n a b : ℕ} → m ≡ a → n ≡ b → H m n → H a b
moved H {m} {n} {a} {b} e f h = subst (λ y. H a y) f (subst (λ x. H x n) e h)

module _ {A B E : Type 0} (v : GridValue A) (o : Order) (m n : ℕ) (m_is : m ≡ row_count v.rows) (n_is : n ≡ col_count v.rows) (o_is : o ≡ v.order) (made : Result (GridValue B) E) where
  abbrev t : List (List A)
  t = v.rows

  size_is : IsSize m n
  size_is = moved (λ x y. IsSize x y) (sym m_is) (sym n_is) (IsSize-table t v.table)

  within : (r c : ℕ) → r < m → c < n → InRange t r c
  within r c row_in col_in = (omega (arith, row_in, m_is), omega (arith, col_in, n_is))

  pub like_same : IfOk made (IsMade o m n) → IfOk made (SameSizeAndOrder v)
  like_same = at made
    where
      at : (x : Result (GridValue B) E) → IfOk x (IsMade o m n) → IfOk x (SameSizeAndOrder v)
      at (Err e) h = tt
      at (Ok g) h = record { rows = sized_rows m n g.rows size_is h.size ∙ m_is; cols = sized_cols m n g.rows size_is h.size ∙ n_is; order = h.order ∙ o_is }

  -- where what a closure answers at each position, P, is what one answers at the cell there, Q
  module _ {F G : Type 0} (P : F → ℕ × ℕ → B → Type 0) (f : F) (Q : G → ℕ × ℕ → Bor A → B → Type 0) (q : G) where
    abbrev Says : Type 0
    Says = (r c : ℕ) (y : B) → InRange t r c → P f (r, c) y → (p : Bor A) × (cell t r c ≡ Some p.now) × Q q (r, c) p y

    pub like_mapped : IfOk made (IsMade o m n) → IfOk made (λ g. MadeBy P f m n g.rows) → Says → IfOk made (λ g. MappedBy Q q t g.rows)
    like_mapped = at made
      where
        at : (x : Result (GridValue B) E) → IfOk x (IsMade o m n) → IfOk x (λ g. MadeBy P f m n g.rows) → Says → IfOk x (λ g. MappedBy Q q t g.rows)
        at (Err e) s cells says = tt
        at (Ok g) s cells says = record {
          tabulated = λ h given. moved (λ x y. g.rows ≡ tabulate x y h) m_is n_is
              (sized_none m n g.rows h size_is s.size (cells.tabulated h (λ r c y row_in col_in said. let w = says r c y (within r c row_in col_in) said in given r c w.0 y (within r c row_in col_in) w.1 w.2)));
          answers = λ r c inside. some_and_map (cell g.rows r c) (λ y said. says r c y inside said) (cells.answers r c (omega (arith, inside.0, m_is)) (omega (arith, inside.1, n_is)));
        }

  -- where what a closure answers at each position, P, is what one answers at the cell there, Q
  module _ (P : ℕ × ℕ → Result B E → Type 0) (Q : ℕ × ℕ → Bor A → Result B E → Type 0) where
    abbrev Here : ℕ × ℕ → Result B E → Type 0
    Here at y = (p : Bor A) × (cell t at.0 at.1 ≡ Some p.now) × Q at p y

    abbrev SaysHere : Type 0
    SaysHere = (at : ℕ × ℕ) (y : Result B E) → InRange t at.0 at.1 → P at y → Here at y

    pub like_fault : IfErr made (FailsAt P o m n) → SaysHere → IfErr made (FailsAt Here v.order (row_count t) (col_count t))
    like_fault = at made
      where
        here : (e : E) → FailsAt P o m n e → SaysHere → FailsAt Here o m n e
        here e a says = record {
          r = a.r;
          c = a.c;
          row_in = a.row_in;
          col_in = a.col_in;
          fails = says (a.r, a.c) (Err e) (within a.r a.c a.row_in a.col_in) a.fails;
          before = λ i j row_in col_in first. let b = a.before i j row_in col_in first in (b.0, says (i, j) (Ok b.0) (within i j row_in col_in) b.1);
        }

        at : (x : Result (GridValue B) E) → IfErr x (FailsAt P o m n) → SaysHere → IfErr x (FailsAt Here v.order (row_count t) (col_count t))
        at (Ok g) a says = tt
        at (Err e) a says = subst (λ x. FailsAt Here x (row_count t) (col_count t) e) o_is (moved (λ x y. FailsAt Here o x y e) m_is n_is (here e a says))
