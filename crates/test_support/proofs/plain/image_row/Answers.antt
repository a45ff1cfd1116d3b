use Rattle.std.proofs.Common.{sym, ◌∙◌, ap, append-nil}
use Rattle.test_support.proofs.GrowLemmas.{line-none, line-grown, source-read}
use Rattle.test_support.proofs.plain.image_row.Goals.{in-Some+in_ok-push, in_default}
use Rattle.test_support.proofs.plain.image_row.Goals as goal

pub loop-col-init : goal.loop-col-init
loop-col-init g c = c.new-cells.ensures.items ∙ sym (line-none _)

pub loop-col-preserved : goal.loop-col-preserved
loop-col-preserved g c =
    let size = c.size-rows.ensures in
    let from = c.source-from_row.ensures in
    elim c.match-get.branch [
      | in-Some+in_ok-push w ↦
          line-grown _ _ _ _ _ c.loop-col.invariant (source-read c.args.symmetry _ _ _ _ _ _ _ _ size.rows size.cols from.row from.col w.in-Some.ensures)
          (ap (λ v. v.items) w.cells-is ∙ w.in_ok-push.ensures.items)
      | in_default w ↦
          line-grown _ _ _ _ _ c.loop-col.invariant (source-read c.args.symmetry _ _ _ _ _ _ _ _ size.rows size.cols from.row from.col w.in_default.ensures)
          (ap (λ v. v.items) w.cells-is ∙ sym (append-nil _))
    ]
