-- The cells so far, each after a space.
use Rattle.std.proofs.Common.{◌≡◌, ◌++◌, take, string_bytes}
use Rattle.grid_play.specs.Output.{line_text}
use Rattle.grid_play.proofs.run.write_line.Given as goal

abbrev pub invariant-loop-cell : goal.invariant-loop-cell
invariant-loop-cell g l = string_bytes l.output ≡ string_bytes l.fn.output ++ line_text (take l.cell-index l.line)
