-- Walks over cells that cost something to enter, and the least sums of costs.
use Rattle.std.specs.Prelude.{◌≡◌, ℕ, zero, suc, ◌+◌, ◌≤◌, ◌-◌, Option, None, Some, List, length, drop, slice_get, sum_by, unwrap_or}
use Rattle.grid_base.specs.Table.{cell}
use Rattle.grid_near.specs.declared.steps.Connectivity.{Connectivity}
use Rattle.grid_paths.specs.Walks.{IsStep}

-- the table has k at a
abbrev pub Holds : List (List (Option ℕ)) → ℕ × ℕ → ℕ → Type 0
Holds t a k = cell t a.0 a.1 ≡ Some (Some k)

-- what it costs to enter a position, 0 where it can't be entered
abbrev pub cost_at : List (List (Option ℕ)) → ℕ × ℕ → ℕ
cost_at costs a = unwrap_or (unwrap_or (cell costs a.0 a.1) None) 0

module _ (connectivity : Connectivity) (costs : List (List (Option ℕ))) where
  -- a walk of n steps from a to b over positions with a cost; the costs of the cells entered, a's
  -- not, come to `sum`
  abbrev pub CostWalk : ℕ × ℕ → ℕ × ℕ → ℕ → ℕ → Type 0
  CostWalk a b zero sum = (a ≡ b) × (sum ≡ 0) × ((k : ℕ) × Holds costs b k)
  CostWalk a b (suc n) sum = (c : ℕ × ℕ) × (s : ℕ) × (k : ℕ) × CostWalk a c n s
      × IsStep connectivity c b
      × Holds costs b k × (sum ≡ s + k)

  -- there is a walk whose costs come to k, and none that costs less
  pub record IsLeastCost (a b : ℕ × ℕ) (k : ℕ) : Type 0 where
    pub walk : (n : ℕ) × CostWalk a b n k
    pub least : (n sum : ℕ) → CostWalk a b n sum → k ≤ sum

  -- u has a sum at each position that a walk leads to, the least sum of costs; it has None at
  -- the others
  pub record HasLeastCosts (from : ℕ × ℕ) (u : List (List (Option ℕ))) : Type 0 where
    pub found : (at : ℕ × ℕ) (n sum : ℕ) → CostWalk from at n sum → (k : ℕ) × Holds u at k
    pub least : (at : ℕ × ℕ) (k : ℕ) → Holds u at k → IsLeastCost from at k

  -- a path from a to b over positions with a cost, by steps, none of them twice; the costs of the
  -- cells entered, the first not, come to `sum`
  pub record IsCostPath (a b : ℕ × ℕ) (path : List (ℕ × ℕ)) (sum : ℕ) : Type 0 where
    pub first : slice_get path 0 ≡ Some a
    pub last : slice_get path (length path - 1) ≡ Some b
    pub each_cost : (j : ℕ) (c : ℕ × ℕ) → slice_get path j ≡ Some c → (k : ℕ) × Holds costs c k
    pub each_step : (j : ℕ) (c d : ℕ × ℕ) → slice_get path j ≡ Some c
        → slice_get path (j + 1) ≡ Some d
        → IsStep connectivity c d
    pub once : (i j : ℕ) (c : ℕ × ℕ) → slice_get path i ≡ Some c → slice_get path j ≡ Some c → i ≡ j
    pub sum_is : sum ≡ sum_by (cost_at costs) (drop 1 path)

  -- and no walk costs less
  pub record IsCheapestPath (a b : ℕ × ℕ) (path : List (ℕ × ℕ)) (sum : ℕ) : Type 0 where
    pub leads : IsCostPath a b path sum
    pub least : IsLeastCost a b sum
