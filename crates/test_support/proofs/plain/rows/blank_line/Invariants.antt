use Rattle.std.proofs.Common.{◌≡◌, replicate}
use Rattle.test_support.proofs.plain.rows.blank_line.Given as goal

abbrev pub invariant-loop : goal.invariant-loop
invariant-loop g l = l.line.items ≡ replicate l.counter l.default
