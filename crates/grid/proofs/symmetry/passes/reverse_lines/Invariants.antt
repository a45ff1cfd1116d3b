use Rattle.std.proofs.Common.{◌≡◌, ◌*◌}
use Rattle.grid.proofs.Common.{saturating_count}
use Rattle.grid.proofs.Lemmas.{Reversing}
use Rattle.grid.proofs.symmetry.passes.reverse_lines.Given as goal

abbrev pub invariant-loop-line : goal.invariant-loop-line
invariant-loop-line g l = record {
  run : Reversing l.lines l.width l.line l.fn.flat l.flat;
  count : l.tally.symmetry ≡ saturating_count l.fn.tally.symmetry (l.line * l.width);
  shift : l.tally.shift ≡ l.fn.tally.shift;
}
