-- What is before the row, and the cells so far.
use Rattle.std.proofs.Common.{[], codes, take, Some, IfSome}
use Rattle.grid_base.proofs.Common.{HasWritten, IsPlainFormatter, row}
use Rattle.grid_view.specs.Texts.{items_text}
use Rattle.grid_base.proofs.Common.{◌++?◌}
use Rattle.grid_view.proofs.view.GridView.display_row.Given as goal

abbrev pub invariant-loop-col : goal.invariant-loop-col
invariant-loop-col g l =
    IsPlainFormatter l.fn.f → IfSome (Some l.before ++? items_text g.T.Display.output (codes " ") [] (take l.col (row l.self.rows l.r))) (λ bs. HasWritten g.W.Write.write_str_gives l.fn.f bs l.f)
