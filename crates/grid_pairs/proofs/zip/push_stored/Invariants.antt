use Rattle.std.proofs.Common.{◌≡◌, vec_capacity}
use Rattle.grid_pairs.specs.Answered.{Appended}
use Rattle.grid_pairs.proofs.zip.push_stored.Given as goal

abbrev pub invariant-loop-k : goal.invariant-loop-k
invariant-loop-k g l = record {
  room : vec_capacity l.made ≡ vec_capacity l.fn.made;
  items : Appended (λ h p q z. goal.F-post g h p q z) l.f l.k l.cells l.others l.fn.made.items l.made.items;
}
