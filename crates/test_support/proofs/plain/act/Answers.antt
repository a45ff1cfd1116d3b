use Rattle.std.proofs.Common.{◌≡◌, sym, ◌∙◌, ap, arith, map}
use Rattle.grid.specs.Prelude.{act, image_rows, row_count, col_count}
use Rattle.std.proofs.lemmas.List.{map-append}
use Rattle.test_support.specs.Plain.{items_of_each}
use Rattle.test_support.proofs.GrowLemmas.{tabulate-none, tabulate-grown, tabulate-at}
use Rattle.test_support.proofs.plain.act.Goals as goal

pub loop-row-init : goal.loop-row-init
loop-row-init g c = ap (map (λ r. r.items)) c.new-image.ensures.items ∙ sym (tabulate-none _ _)

pub loop-row-preserved : goal.loop-row-preserved
loop-row-preserved g c =
    tabulate-grown _ _ _ _ _ _ c.loop-row.invariant c.in_ok-image_row.ensures
    (ap (map (λ r. r.items)) c.in_ok-push.ensures.items ∙ map-append _ _ _)

pub returns : goal.returns
unfolding act
returns g c =
    let t = items_of_each c.args.table.now in
    let size = c.size-rows.ensures in
    let height : c.image_size-height.result.0 ≡ image_rows c.args.symmetry (row_count t) (col_count t) =
    c.image_size-height.ensures.rows ∙ (ap (λ m. image_rows c.args.symmetry m c.size-rows.result.1) size.rows ∙ ap (image_rows c.args.symmetry (row_count t)) size.cols) in
    c.loop-row.invariant ∙ tabulate-at _ _ _ _ (omega arith)
