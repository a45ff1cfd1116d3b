-- The rows so far.
use Rattle.std.proofs.Common.{take, IfSome}
use Rattle.std.specs.Fmt.{HasWritten, IsPlainFormatter}
use Rattle.grid_view.specs.Texts.{lines_text}
use Rattle.grid_view.proofs.display.GridViewDisplay.fmt.Given as goal

abbrev pub invariant-loop-row : goal.invariant-loop-row
invariant-loop-row g l =
    IsPlainFormatter l.fn.f → IfSome (lines_text g.T.Display.output (take l.row l.self.rows)) (λ bs. HasWritten g.W.Write.write_str_gives l.fn.f bs l.f)
