use Rattle.std.proofs.Common.{codes, take, Some, IfSome}
use Rattle.std.specs.Fmt.{◌++?◌, HasWritten, IsPlainFormatter}
use Rattle.grid_view.specs.Texts.{rows_text}
use Rattle.grid_view.proofs.text.GridViewDebug.fmt.Given as goal

abbrev pub invariant-loop-row : goal.invariant-loop-row
invariant-loop-row g l =
    IsPlainFormatter l.fn.f → IfSome (Some (codes "[") ++? rows_text g.T.Debug.debug_output (take l.row l.self.rows)) (λ bs. HasWritten g.W.Write.write_str_gives l.fn.f bs l.f)
