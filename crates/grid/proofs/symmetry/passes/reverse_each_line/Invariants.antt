use Rattle.std.proofs.Common.{◌≡◌, ◌≤◌, ℕ, ◌<◌, ◌+◌, ◌-◌, ◌*◌, ◌/◌, length, slice_get}
use Rattle.grid.proofs.Common.{saturating_count}
use Rattle.grid.proofs.symmetry.passes.reverse_each_line.Given as goal

abbrev pub invariant-loop-line : goal.invariant-loop-line
invariant-loop-line g l = record {
  length_stays : length l.flat ≡ length l.fn.flat;
  moved : (i j : ℕ) → i < l.line → j < l.width → slice_get l.flat (i * l.width + j) ≡ slice_get l.fn.flat (i * l.width + (l.width - 1 - j));
  rest : (k : ℕ) → l.line * l.width ≤ k → slice_get l.flat k ≡ slice_get l.fn.flat k;
  count : l.tally.symmetry ≡ saturating_count l.fn.tally.symmetry (l.line * (l.width / 2));
  shift : l.tally.shift ≡ l.fn.tally.shift;
}
