use Rattle.std.proofs.Common.{◌≤◌, vec_capacity}
use Rattle.grid_pairs.specs.Folded.{AreCopies}
use Rattle.grid_pairs.proofs.fold.copies_of.Given as goal

abbrev pub invariant-loop : goal.invariant-loop
invariant-loop g l = record {
  room : l.count ≤ vec_capacity l.copies;
  copies : AreCopies l.value l.counter l.copies.items;
}
