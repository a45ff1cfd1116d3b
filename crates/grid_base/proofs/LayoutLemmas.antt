-- What a layout knows of its size.
use Rattle.std.proofs.Common.{◌≡◌, ◌*◌, ℕ}
use Rattle.grid_base.proofs.Common.{HoldsSize}
use Rattle.grid_base.specs.declared.layout.Layout.{Layout}

-- as many cells as a layout has fill its table
pub holds : (l : Layout) (len : ℕ) → len ≡ l.rows * l.cols → HoldsSize l.rows l.cols len
holds l len e = record { cells = e; below = l.fits; size = l.size }
