use Rattle.std.proofs.Common.{sym, ◌∙◌, ap, option_copied}
use Rattle.grid_deferred.proofs.Common.{shown, either_way, IsTable-act}
use Rattle.grid_deferred.proofs.Lemmas.{in_range_some}
use Rattle.grid_deferred.proofs.deferred.Deferred.read_cell.Goals as goal

pub returns-in_err-copy-in-Some-clause-err_memory : goal.returns-in_err-copy-in-Some-clause-err_memory
returns-in_err-copy-in-Some-clause-err_memory g c =
    either_way _
    (in_range_some (shown c.args.self.now) (IsTable-act _ _ c.args.self.now.base.now.table) c.args.row c.args.col c.in-Some.cell.now
    (sym c.get.ensures ∙ ap option_copied c.in-Some.is))
