-- What one step of the breadth-first search does. Public clauses cite `HaveOneSize` alone.
use Rattle.std.specs.Prelude.{◌≡◌, ℕ, ◌+◌, ◌<◌, ◌≤◌, ◌⊎◌, Bool, Option, None, Some, List, length, slice_get, sum_by}
use Rattle.grid_base.specs.Table.{row_count, col_count, cell}
use Rattle.grid_near.specs.declared.steps.Connectivity.{Connectivity}
use Rattle.grid_paths.specs.Walks.{IsOpen, Walk, IsLeastSteps}

-- two tables have one size
pub record HaveOneSize {T U : Type 0} (t : List (List T)) (u : List (List U)) : Type 0 where
  pub rows : row_count t ≡ row_count u
  pub cols : col_count t ≡ col_count u

-- the position has n steps
abbrev pub IsMarked : List (List (Option ℕ)) → ℕ × ℕ → ℕ → Type 0
IsMarked steps a n = cell steps a.0 a.1 ≡ Some (Some n)

-- item j of the queue
abbrev pub IsAt : List (ℕ × ℕ) → ℕ → ℕ × ℕ → Type 0
IsAt queue j a = slice_get queue j ≡ Some a

-- the open positions that aren't reached yet
pub record IsLeft (mask : List (List Bool)) (steps : List (List (Option ℕ)))
    (left : List (List Bool)) : Type 0 where
  pub size : HaveOneSize left mask
  pub unreached_yet : (a : ℕ × ℕ) → IsOpen left a
      → IsOpen mask a × (cell steps a.0 a.1 ≡ Some None)
  pub all : (a : ℕ × ℕ) → IsOpen mask a → IsOpen left a ⊎ ((m : ℕ) × IsMarked steps a m)

-- the step counts up to d are the least, and each position fewer steps away has one
pub record HasLeastUpTo (connectivity : Connectivity) (mask : List (List Bool)) (from : ℕ × ℕ)
    (u : List (List (Option ℕ))) (d : ℕ) : Type 0 where
  pub found : (at : ℕ × ℕ) (n : ℕ) → n < d → Walk connectivity mask from at n
      → (k : ℕ) × IsMarked u at k × (k ≤ n)
  pub least : (at : ℕ × ℕ) (k : ℕ) → k ≤ d → IsMarked u at k
      → IsLeastSteps connectivity mask from at k

-- the step counts up to that of the goal are known; where it has none, no walk leads to it
pub record IsSettled (connectivity : Connectivity) (mask : List (List Bool)) (from goal : ℕ × ℕ)
    (u : List (List (Option ℕ))) : Type 0 where
  pub found : (d : ℕ) → IsMarked u goal d → HasLeastUpTo connectivity mask from u d
  pub none : ((d : ℕ) → IsMarked u goal d → ⊥) → (n : ℕ) → Walk connectivity mask from goal n → ⊥

-- how many cells aren't reached yet
abbrev pub free : Option ℕ → ℕ
free None = 1
free (Some n) = 0

abbrev pub unreached : List (List (Option ℕ)) → ℕ
unreached steps = sum_by (sum_by free) steps

-- a position that got k, and came to the end of the queue
pub record IsReached (near : ℕ × ℕ → Type 0) (mask : List (List Bool)) (k : ℕ)
    (queue queue' : List (ℕ × ℕ))
    (a : ℕ × ℕ) (m : ℕ) : Type 0 where
  pub is : m ≡ k
  pub is_open : IsOpen mask a
  pub is_near : near a
  pub queued : (j : ℕ) × (length queue ≤ j) × IsAt queue' j a

-- some near positions got k, and came to the end of the queue
pub record Spread (near : ℕ × ℕ → Type 0) (mask : List (List Bool)) (k : ℕ)
    (u : List (List (Option ℕ)))
    (queue : List (ℕ × ℕ)) (u' : List (List (Option ℕ))) (queue' : List (ℕ × ℕ)) : Type 0 where
  pub kept : (a : ℕ × ℕ) (m : ℕ) → IsMarked u a m → IsMarked u' a m
  pub fresh : (a : ℕ × ℕ) (m : ℕ) → IsMarked u' a m
      → IsMarked u a m ⊎ IsReached near mask k queue queue' a m
  pub kept_at : (j : ℕ) (a : ℕ × ℕ) → IsAt queue j a → IsAt queue' j a
  pub old_at : (j : ℕ) (a : ℕ × ℕ) → j < length queue → IsAt queue' j a → IsAt queue j a
  pub fresh_at : (j : ℕ) (a : ℕ × ℕ) → length queue ≤ j → IsAt queue' j a → IsMarked u' a k
  pub longer : length queue ≤ length queue'
  pub total : unreached u' + length queue' ≡ unreached u + length queue

-- and all open ones that are near have one
pub record WentAround (near : ℕ × ℕ → Type 0) (mask : List (List Bool)) (k : ℕ)
    (u : List (List (Option ℕ)))
    (queue : List (ℕ × ℕ)) (u' : List (List (Option ℕ))) (queue' : List (ℕ × ℕ)) : Type 0 where
  pub spread : Spread near mask k u queue u' queue'
  pub around : (b : ℕ × ℕ) → near b → IsOpen mask b → (m : ℕ) × IsMarked u' b m
