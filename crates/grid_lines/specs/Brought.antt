-- The cells of a row across the storage come to its front, and go back. No public clause cites it.
use Rattle.std.specs.Prelude.{ℕ, zero, suc, ◌+◌, ◌*◌, List, swap}

module _ {T : Type 0} (m r : ℕ) where
  -- the first k cells of row r of a column-major table of m rows have come to the front, one after
  -- another
  abbrev pub brought : ℕ → List T → List T
  brought zero xs = xs
  brought (suc k) xs = swap (brought k xs) k (k * m + r)

  -- the first k cells of the storage have gone back to row r, from the last one on
  abbrev pub taken_back : ℕ → List T → List T
  taken_back zero xs = xs
  taken_back (suc k) xs = taken_back k (swap xs k (k * m + r))
