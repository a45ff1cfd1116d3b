-- The bytes so far are those that the reader has given.
use Rattle.std.specs.Io.KnownBytes.{Consumes}
use Rattle.gridscript.proofs.input.read_all.Given as goal

abbrev pub invariant-loop : goal.invariant-loop
invariant-loop g l = Consumes (g.R.Read.remaining l.fn.reader) (g.R.Read.remaining l.reader) l.bytes.items
