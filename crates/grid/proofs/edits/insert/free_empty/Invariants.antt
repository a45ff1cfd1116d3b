use Rattle.std.proofs.Common.{◌≡◌, ◌+◌, [], All, vec_len}
use Rattle.grid.proofs.edits.insert.free_empty.Given as goal

abbrev pub invariant-loop : goal.invariant-loop
invariant-loop g l = record {
  empty : All (λ line. line.items ≡ []) l.lines.items;
  number : l.counter + vec_len l.lines ≡ vec_len l.fn.lines;
}
