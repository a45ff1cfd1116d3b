-- Clones of whole grids.
use Rattle.std.specs.Prelude.{◌≡◌}
use Rattle.grid_base.specs.Prelude.{GridValue, ClonesAreEqual}
use Rattle.std.specs.List.{AllZip}

module _ {T : Type 0} where
  -- a grid of the same size and order with a clone of each cell in its place, which is the same
  -- grid where clones equal their source
  pub record IsGridClone (is_clone : T → T → Type 0) (g copy : GridValue T) : Type 0 where
    pub rows : AllZip (AllZip is_clone) g.rows copy.rows
    pub order : copy.order ≡ g.order
    pub same : ClonesAreEqual is_clone → copy ≡ g
