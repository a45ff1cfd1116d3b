-- The state of a breadth-first search, as the code keeps it. No public clause cites this module.
use Rattle.std.specs.Prelude.{◌≡◌, ℕ, ◌+◌, ◌^◌, ◌<◌, Bool, None, Some, List, [], ◌∷◌, ◌++◌}
use Rattle.grid_base.specs.GridValue.{GridValue, SameSizeAndOrder}
use Rattle.grid_base.specs.Table.{row_count, col_count, with_cell, tabulate}
use Rattle.grid_near.specs.declared.steps.Connectivity.{Connectivity}
use Rattle.grid_paths.specs.declared.numbered.Region.{Region}
use Rattle.grid_paths.specs.declared.search.Search.{Search}
use Rattle.grid_paths.specs.declared.bfs.Bfs.{Bfs}
use Rattle.grid_paths.specs.Search.{HaveOneSize, IsLeft, WentAround, unreached}
use Rattle.grid_paths.specs.Walks.{alike}
use Rattle.grid_paths.specs.Numbers.{IsScanned}

module _ {A : Type 0} where
  -- nothing is numbered yet
  pub record IsBlank {T : Type 0} (grid : GridValue T) (w : Bfs A) : Type 0 where
    pub order : w.numbers.order ≡ grid.order
    pub size : HaveOneSize w.numbers.rows grid.rows
    pub none : w.numbers.rows
        ≡ tabulate (row_count grid.rows) (col_count grid.rows) (λ _ _. Some None)
    pub queue : w.queue.items ≡ []

  -- the position b got k, and came to the end of the queue
  pub record Marks (b : ℕ × ℕ) (k : ℕ) (w w' : Bfs A) : Type 0 where
    pub same : SameSizeAndOrder w.numbers w'.numbers
    pub numbers : w'.numbers.rows ≡ with_cell w.numbers.rows b.0 b.1 (Some k)
    pub queue : w'.queue.items ≡ w.queue.items ++ b ∷ []

  -- the near open positions that had no step count or label got k
  pub record Spreads (near : ℕ × ℕ → Type 0) (mask : List (List Bool)) (k : ℕ) (w w' : Bfs A)
      : Type 0 where
    pub same : SameSizeAndOrder w.numbers w'.numbers
    pub round : WentAround near mask k w.numbers.rows w.queue.items w'.numbers.rows w'.queue.items

  -- what is left is what is open of a mask and not reached yet
  abbrev pub CanReach : Search A → Type 0
  CanReach s = (mask : List (List Bool)) × IsLeft mask s.steps.numbers.rows s.left.rows

  -- the near ones that are left are reached by k steps
  abbrev pub Reaches : (ℕ × ℕ → Type 0) → ℕ → Search A → Search A → Type 0
  Reaches near k s s' = (mask : List (List Bool)) → IsLeft mask s.steps.numbers.rows s.left.rows
      → Spreads near mask k s.steps s'.steps × IsLeft mask s'.steps.numbers.rows s'.left.rows

  module _ {T : Type 0} (eq : T → T → Bool) where
    -- the cells that equal the region's
    abbrev pub mask_of : Region T A → List (List Bool)
    mask_of r = alike eq r.first.now r.grid.now.rows

    -- the near ones among them that have no label got the region's
    abbrev pub Numbers : (ℕ × ℕ → Type 0) → Region T A → Bfs A → Bfs A → Type 0
    Numbers near r w w' = Spreads near (mask_of r) r.number w w'

  -- the regions of the positions before p are numbered
  pub record IsCounting {T : Type 0} (connectivity : Connectivity) (eq : T → T → Bool)
      (grid : GridValue T) (w : Bfs A) (count : ℕ) (p : ℕ × ℕ) : Type 0 where
    pub order : w.numbers.order ≡ grid.order
    pub size : HaveOneSize w.numbers.rows grid.rows
    pub scanned : IsScanned connectivity eq grid.rows w.numbers.rows count p
    pub room : count + unreached w.numbers.rows < 2 ^ 64
