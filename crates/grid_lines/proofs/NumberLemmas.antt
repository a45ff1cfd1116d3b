-- Lines that are sorted by a number or by a key of each.
use Rattle.std.proofs.Common.{◌≡◌, ℕ, List, ap, is_lt, nat_cmp}
use Rattle.grid_base.proofs.Common.{nat_cmp_total, always_returns_same, IsNonDecreasingBy-from_sort, answers_always, ranks_by, Mut, Called}
use Rattle.std.specs.declared.cmp.Ordering.{Ordering}
use Rattle.grid_lines.specs.SortedLines.{AreSortedLines, AreSortedByKey, AscendBy, AscendByKey}

-- where each call compares the numbers of its two lines
pub rising : {F T : Type 0} (g : Mut F (List T × (List T × Unit {0})) Ordering) (f : F) (lines : List (List T)) → AreSortedLines g f lines → (n : List T → ℕ) → ((a b : List T) (r : Ordering) (h : F) → Called g f (a, (b, tt)) r h → (r ≡ nat_cmp (n a) (n b)) × (h ≡ f)) → AscendBy n lines
rising g f lines sorted n says =
    record {
      at = IsNonDecreasingBy-from_sort n lines (sorted (λ a b. is_lt (nat_cmp (n a) (n b))) (ranks_by nat_cmp_total n)
          (always_returns_same g (λ a r. is_lt r ≡ is_lt (nat_cmp (n a.0) (n a.1.0))) f (λ a r h k. let one = says a.0 a.1.0 r h k in (ap is_lt one.0, one.1))));
    }

-- the same where it does so whatever its state
pub rising_always : {F T : Type 0} (g : Mut F (List T × (List T × Unit {0})) Ordering) (f : F) (lines : List (List T)) → AreSortedLines g f lines → (n : List T → ℕ) → ((q : F) (a b : List T) (r : Ordering) (h : F) → Called g q (a, (b, tt)) r h → r ≡ nat_cmp (n a) (n b)) → AscendBy n lines
rising_always g f lines sorted n says =
    record {
      at = IsNonDecreasingBy-from_sort n lines (sorted (λ a b. is_lt (nat_cmp (n a) (n b))) (ranks_by nat_cmp_total n)
          (answers_always g (λ a r. is_lt r ≡ is_lt (nat_cmp (n a.0) (n a.1.0))) f (λ q a r h k. ap is_lt (says q a.0 a.1.0 r h k))));
    }

-- where each call gives a key of its line
pub rising_key : {F T K : Type 0} (g : Mut F (List T × Unit {0}) K) (cmp : K → K → Ordering) (f : F) (lines : List (List T)) → AreSortedByKey g cmp f lines → (given : List T → K) → ((a : List T) (r : K) (h : F) → Called g f (a, tt) r h → (r ≡ given a) × (h ≡ f)) → AscendByKey cmp given lines
rising_key g cmp f lines sorted given says =
    record { at = sorted given (always_returns_same g (λ a r. r ≡ given a.0) f (λ a r h k. says a.0 r h k)) }
