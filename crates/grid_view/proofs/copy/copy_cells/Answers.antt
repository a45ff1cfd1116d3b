use Rattle.std.proofs.Common.{rules, ◌<◌, length, sym, ◌∙◌, ap, arith, ◌++◌, ◌∷◌, []}
use Rattle.grid_base.proofs.Common.{take_more_set, row}
use Rattle.grid_base.proofs.ClosureLemmas.{take_next}
use Rattle.grid_view.proofs.copy.copy_cells.Goals as goal

pub loop-col-preserved : goal.loop-col-preserved
loop-col-preserved g c =
    let x = c.get_unchecked.result.now in
    let line = row c.args.view.now.rows c.args.r in
    let within : c.loop-col.col < length c.loop-col.to = omega (arith, c.loop-col.invariant.len) in
    record {
      len = search rules;
      copied = take_more_set c.loop-col.to c.loop-col.col x within
          ∙ (ap (λ cells. cells ++ x ∷ []) c.loop-col.invariant.copied ∙ sym (take_next line c.loop-col.col x c.get_unchecked.ensures));
    }
