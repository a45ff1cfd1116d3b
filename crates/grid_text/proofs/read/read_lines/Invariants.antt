-- The rows of the lines so far, before a text that is left.
use Rattle.std.proofs.Common.{length, IsUtf8}
use Rattle.grid_text.proofs.Lemmas.{LinesSoFar}
use Rattle.grid_text.proofs.read.read_lines.Given as goal

abbrev pub invariant-loop-rest : goal.invariant-loop-rest
invariant-loop-rest g l = record {
  utf8 : IsUtf8 l.rest;
  lines : LinesSoFar (g.P.Pieces.cutting l.pieces).parts (g.P.Pieces.cutting l.pieces).bad (g.P.Pieces.cutting l.pieces).answers l.fn.text l.rest l.rows l.line;
}

abbrev pub decreases-loop-rest : goal.decreases-loop-rest
decreases-loop-rest g l = length l.rest
