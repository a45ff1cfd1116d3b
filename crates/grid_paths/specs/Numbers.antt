-- What one step of the numbering of regions does. No public clause cites this module.
use Rattle.std.specs.Prelude.{◌≡◌, ℕ, ◌<◌, ◌⊎◌, Bool, true, Option, Some, List}
use Rattle.std.specs.Cmp.{IsEquivalence}
use Rattle.grid_base.specs.Table.{cell, InRange}
use Rattle.grid_near.specs.declared.steps.Connectivity.{Connectivity}
use Rattle.grid_paths.specs.Walks.{IsOpen, IsStep, Walk}
use Rattle.grid_paths.specs.Search.{IsMarked}
use Rattle.grid_paths.specs.Regions.{AreJoined, ComesBefore}

-- the positions that an open walk from p leads to over positions without a label got the label k
pub record IsNumbered (connectivity : Connectivity) (mask : List (List Bool)) (p : ℕ × ℕ) (k : ℕ)
    (u u' : List (List (Option ℕ))) : Type 0 where
  pub kept : (a : ℕ × ℕ) (m : ℕ) → IsMarked u a m → IsMarked u' a m
  pub is : (a : ℕ × ℕ) (m : ℕ) → IsMarked u' a m → IsMarked u a m ⊎ (m ≡ k)
  pub walk : (a : ℕ × ℕ) → IsMarked u' a k → IsOpen mask p
      → (n : ℕ) × Walk connectivity mask p a n
  pub here : IsMarked u' p k
  pub spread : (a b : ℕ × ℕ) → IsMarked u' a k → IsStep connectivity a b → IsOpen mask b
      → (m : ℕ) × IsMarked u' b m

module _ {T : Type 0} (eq : T → T → Bool) (t : List (List T)) where
  -- the cell at b equals that at a
  pub record AreEqual (a b : ℕ × ℕ) : Type 0 where
    pub x : T
    pub y : T
    pub first : cell t a.0 a.1 ≡ Some x
    pub second : cell t b.0 b.1 ≡ Some y
    pub equal : eq y x ≡ true

module _ (connectivity : Connectivity) {T : Type 0} (eq : T → T → Bool) (t : List (List T)) where
  -- each label is one whole region
  pub record AreParts (u : List (List (Option ℕ))) : Type 0 where
    pub closed : (a b : ℕ × ℕ) (m : ℕ) → IsStep connectivity a b → AreEqual eq t a b
        → IsMarked u a m
        → IsMarked u b m
    pub one : (a b : ℕ × ℕ) (m : ℕ) → IsMarked u a m → IsMarked u b m
        → AreJoined connectivity eq t a b

  -- the regions of the positions before p, row by row, have the labels below the count
  pub record IsScanned (u : List (List (Option ℕ))) (count : ℕ) (p : ℕ × ℕ) : Type 0 where
    pub below : (a : ℕ × ℕ) (m : ℕ) → IsMarked u a m → m < count
    pub used : (k : ℕ) → k < count → (b : ℕ × ℕ) × ComesBefore b p × IsMarked u b k
    pub seen : (a : ℕ × ℕ) → InRange t a.0 a.1 → ComesBefore a p → (m : ℕ) × IsMarked u a m
    pub ordered : (a : ℕ × ℕ) (k j : ℕ) → IsMarked u a k → j < k
        → (b : ℕ × ℕ) × ComesBefore b a × IsMarked u b j
    pub parts : IsEquivalence eq → AreParts u
