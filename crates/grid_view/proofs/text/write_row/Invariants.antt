use Rattle.std.proofs.Common.{[], codes, take, Some, IfSome}
use Rattle.grid_base.proofs.Common.{◌++?◌, HasWritten, IsPlainFormatter, debug_items, row}
use Rattle.grid_view.proofs.text.write_row.Given as goal

abbrev pub invariant-loop-col : goal.invariant-loop-col
invariant-loop-col g l =
    IsPlainFormatter l.fn.f → IfSome (Some (codes "[") ++? debug_items g.T.Debug.debug_output [] (take l.col (row l.view.rows l.r))) (λ bs. HasWritten g.W.Write.write_str_gives l.fn.f bs l.f)
