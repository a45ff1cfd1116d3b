-- When two views are the same cell by cell.
use Rattle.std.specs.Prelude.{◌≡◌, ℕ, ◌<◌, ◌≤◌, Bool, IsTrue, Some, List}
use Rattle.std.specs.Cmp.{IsPartialEquivalence, IsEquivalence, on_per, on_equiv}
use Rattle.std.specs.Cmp.Lexicographic.{lists_per, lists_equiv}
use lib.Pointwise.{pointwise}
use Rattle.grid_base.specs.Table.{cell}
use Rattle.grid_view.specs.Value.{ViewValue}

module _ {T : Type 0} where
  -- the tables have as many rows, each as many cells, and each cell is the other's
  abbrev pub same_rows : (T → T → Bool) → List (List T) → List (List T) → Bool
  same_rows same t u = pointwise (pointwise same) t u

  -- the same of views
  abbrev pub same_view : (T → T → Bool) → ViewValue T → ViewValue T → Bool
  same_view same a b = same_rows same a.rows b.rows

  pub same_view_per : {same : T → T → Bool} → IsPartialEquivalence same
      → IsPartialEquivalence (same_view same)
  same_view_per laws = on_per (λ (s : ViewValue T). s.rows) (lists_per (lists_per laws))

  pub same_view_equiv : {same : T → T → Bool} → IsEquivalence same
      → IsEquivalence (same_view same)
  same_view_equiv laws = on_equiv (λ (s : ViewValue T). s.rows) (lists_equiv (lists_equiv laws))

-- each cell of table t in rows rows.0 to rows.1 - 1, and in such columns, is that of u
pub record AreSame {T : Type 0} (same : T → T → Bool) (t u : List (List T)) (rows cols : ℕ × ℕ)
    : Type 0 where
  pub at : (r c : ℕ) → rows.0 ≤ r → r < rows.1 → cols.0 ≤ c → c < cols.1 → (x y : T)
      → cell t r c ≡ Some x → cell u r c ≡ Some y → IsTrue (same x y)
