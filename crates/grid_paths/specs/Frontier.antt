-- The search for the least costs as the code keeps it. No public clause cites this module.
use Rattle.std.specs.Prelude.{◌≡◌, ℕ, ◌+◌, ◌^◌, ◌<◌, ◌≤◌, Option, None, Some, List, [], ◌∷◌, map}
use Rattle.std.specs.BinaryHeap.{IsHeap, heap_items, heap_len}
use Rattle.std.specs.List.Sorted.{IsPermutation}
use Rattle.std.specs.declared.cmp.Ordering.{Ordering}
use Rattle.std.specs.declared.cmp.Reverse.{Reverse}
use Rattle.std.specs.Ordering.{ordering_then}
use Rattle.grid_base.specs.GridValue.{GridValue, SameSizeAndOrder}
use Rattle.grid_base.specs.Table.{row_count, col_count, with_cell, InRange}
use Rattle.grid_near.specs.declared.steps.Connectivity.{Connectivity}
use Rattle.grid_paths.specs.declared.costs.Frontier.{Frontier}
use Rattle.grid_paths.specs.declared.costs.Settled.{Settled}
use Rattle.grid_paths.specs.Search.{HaveOneSize}
use Rattle.grid_paths.specs.Cheapest.{Holds}
use Rattle.grid_paths.specs.Relaxing.{Entry, Relaxes, IsCostSearch, IsFirst}
use Rattle.grid_paths.specs.Width.{Reading, numbers, HasRoom}

-- with what a settled position waited
abbrev pub entry : Settled → Entry
entry x = record { 0 = (x.sum, x.at) }

module _ {N : Type 0} where
  -- the order of the items of the heap: of the least sum first
  abbrev pub by_sum : (N → N → Ordering) → Reverse (N × N) → Reverse (N × N) → Ordering
  by_sum cmp x y = ordering_then (cmp y.0.0 x.0.0) (cmp y.0.1 x.0.1)

  -- what an item of the heap stands for
  abbrev pub entry_of : Reading N → Reverse (N × N) → Entry
  entry_of w x = record { 0 = (w.value x.0.0, w.position x.0.1) }

module _ {N A : Type 0} where
  -- the least sums that were found
  abbrev pub sums_of : Reading N → Frontier N A → List (List (Option ℕ))
  sums_of w f = numbers w f.sums.rows

  -- the positions that wait, each with a sum
  abbrev pub waiting : Reading N → Frontier N A → List Entry
  waiting w f = map (entry_of w) (heap_items f.heap)

  -- what waits in f and not in `heap` was settled before
  abbrev pub IsEnough : Reading N → Frontier N A → List Entry → Type 0
  IsEnough w f heap = (connectivity : Connectivity) (costs : List (List (Option ℕ))) (from : ℕ × ℕ)
      → IsCostSearch connectivity costs from (sums_of w f) f.left.rows (waiting w f)
      → IsCostSearch connectivity costs from (sums_of w f) f.left.rows heap

  -- nothing waited
  pub record IsEmptied (w : Reading N) (f f' : Frontier N A) : Type 0 where
    pub sums : f'.sums ≡ f.sums
    pub empty : waiting w f ≡ []

  -- nothing that waits is left
  pub record IsOver (w : Reading N) (f f' : Frontier N A) : Type 0 where
    pub sums : f'.sums ≡ f.sums
    pub enough : IsEnough w f []

module _ {N A : Type 0} (cmp : N → N → Ordering) (w : Reading N) where
  -- the two tables have one size, which fits, and the heap is ordered
  pub record IsFrontier (f : Frontier N A) : Type 0 where
    pub size : HaveOneSize f.sums.rows f.left.rows
    pub rows : row_count f.left.rows < w.side
    pub cols : col_count f.left.rows < w.side
    pub heap_order : IsHeap (by_sum cmp) (heap_items f.heap)

  -- the position `at` got the sum `sum`, and waits with it
  pub record Puts (at : ℕ × ℕ) (sum : ℕ) (f f' : Frontier N A) : Type 0 where
    pub left : f'.left ≡ f.left
    pub same : SameSizeAndOrder f.sums f'.sums
    pub sums : sums_of w f' ≡ with_cell (sums_of w f) at.0 at.1 (Some sum)
    pub heap_order : IsHeap (by_sum cmp) (heap_items f.heap)
        → IsHeap (by_sum cmp) (heap_items f'.heap)
    pub waits : IsPermutation (record { 0 = (sum, at) } ∷ waiting w f) (waiting w f')

  -- a sum and a position, which came first of those that waited, wait no more
  pub record Pops (x : ℕ × (ℕ × ℕ)) (f f' : Frontier N A) : Type 0 where
    pub left : f'.left ≡ f.left
    pub sums : f'.sums ≡ f.sums
    pub heap_order : IsHeap (by_sum cmp) (heap_items f.heap)
        → IsHeap (by_sum cmp) (heap_items f'.heap)
    pub taken : IsPermutation (waiting w f) (record { 0 = x } ∷ waiting w f')
    pub first : IsHeap (by_sum cmp) (heap_items f.heap)
        → IsFirst (record { 0 = x }) (waiting w f')
    pub fewer : heap_len f'.heap + 1 ≡ heap_len f.heap

  -- the near positions that are left are entered from a sum, and nothing else changes
  pub record Enters (near : ℕ × ℕ → Type 0) (sum : ℕ) (f f' : Frontier N A) : Type 0 where
    pub left : f'.left ≡ f.left
    pub order : f'.sums.order ≡ f.sums.order
    pub whole : IsFrontier f'
    pub relaxes : Relaxes near f.left.rows sum (sums_of w f) (waiting w f) (sums_of w f')
        (waiting w f')

  -- those around x can be entered
  pub record IsReady (f : Frontier N A) (x : Settled) : Type 0 where
    pub inside : InRange f.left.rows x.at.0 x.at.1
    pub small : x.sum + 2 ^ 32 ≤ 2 ^ 128
    pub below : x.sum + 2 ^ 32 ≤ w.limit
    pub whole : IsFrontier f

  -- x was left, and comes first of those that wait: it is settled
  pub record IsNext (f f' : Frontier N A) (x : Settled) : Type 0 where
    pub is_left : Holds f.left.rows x.at x.cost
    pub left : f'.left.rows ≡ with_cell f.left.rows x.at.0 x.at.1 None
    pub size : HaveOneSize f'.left.rows f.left.rows
    pub sums : f'.sums ≡ f.sums
    pub heap : List Entry
    pub enough : IsEnough w f heap
    pub taken : IsPermutation heap (entry x ∷ waiting w f')
    pub first : IsFirst (entry x) (waiting w f')
    pub whole : IsFrontier f'

  -- the search has come so far
  pub record IsSearching (connectivity : Connectivity) (costs : GridValue (Option ℕ)) (from : ℕ × ℕ)
      (f : Frontier N A) : Type 0 where
    pub order : f.sums.order ≡ costs.order
    pub left : HaveOneSize f.left.rows costs.rows
    pub room : HasRoom w costs.rows
    pub whole : IsFrontier f
    pub search : IsCostSearch connectivity costs.rows from (sums_of w f) f.left.rows (waiting w f)
