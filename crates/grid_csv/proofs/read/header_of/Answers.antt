-- The names, and the first field that isn't text.
use Rattle.grid_csv.proofs.Common.{err_from_is_err_and}
use Rattle.grid_csv.proofs.Lemmas.{header_is, header_bad}
use Rattle.grid_csv.proofs.read.header_of.Goals as goal

pub returns-in_err-push_fields : goal.returns-in_err-push_fields
returns-in_err-push_fields c =
    let p = err_from_is_err_and c.from_residual.result c.from_residual.ensures.1 in
    rw (p.1, p.2) (header_bad _ _ _ c.in_err-push_fields.ensures (λ field cell said. said))

pub returns : goal.returns
returns c = header_is _ _ _ _ _ c.new-header.ensures c.in_ok-push_fields.ensures c.into_vec.ensures (λ field cell said. said)
