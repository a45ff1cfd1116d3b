-- What comes after the gap comes after the rest of it.
use Rattle.std.proofs.Common.{◌≡◌, ◌≤◌, false, length}
use Rattle.grid_pnm.specs.Scan.{after_gap}
use Rattle.grid_pnm.proofs.scan.after_gap.Given as goal

abbrev pub invariant-loop-byte : goal.invariant-loop-byte
invariant-loop-byte l = (after_gap l.comment l.rest ≡ after_gap false l.fn.bytes) × (length l.rest ≤ length l.fn.bytes)

abbrev pub decreases-loop-byte : goal.decreases-loop-byte
decreases-loop-byte l = length l.rest
