-- The samples so far, before those that are left.
use Rattle.std.proofs.Common.{◌≡◌, ◌≤◌, ◌-◌, length, vec_len}
use Rattle.grid_pnm.specs.Samples.{prepend, plain_samples}
use Rattle.grid_pnm.proofs.samples.plain_samples.Given as goal

abbrev pub invariant-loop-rest : goal.invariant-loop-rest
invariant-loop-rest g l = record {
  within : length l.samples.items ≤ l.count;
  read : plain_samples l.len l.max l.count l.fn.bytes ≡ prepend l.samples.items (plain_samples l.len l.max (l.count - length l.samples.items) l.rest);
}

abbrev pub decreases-loop-rest : goal.decreases-loop-rest
decreases-loop-rest g l = l.count - vec_len l.samples
