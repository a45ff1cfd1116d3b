-- The sample of one more cell.
use Rattle.std.proofs.Common.{◌≡◌, ◌<◌, ◌+◌, ◌++◌, ◌∷◌, [], refl, length, take, arith}
use Rattle.std.proofs.lemmas.List.{take_more}
use Rattle.grid_pnm.specs.Writing.{AnswersCell}
use Rattle.grid_pnm.proofs.WriteLemmas.{sample_may}
use Rattle.grid_pnm.proofs.write.push_all.Goals as goal

pub loop-cell-preserved : goal.loop-cell-preserved
loop-cell-preserved g c =
    let i = c.loop-cell.invariant in
    let p = c.push_reserved.ensures in
    let lt : c.loop-cell.cell-index < length c.args.cells.now = omega arith in
    let more : take (c.loop-cell.cell-index + 1) c.args.cells.now ≡ take c.loop-cell.cell-index c.args.cells.now ++ c.cell-item.result ∷ [] =
    rw (take_more c.args.cells.now c.loop-cell.cell-index c.cell-item.result lt, ← c.cell-item.is) refl in
    record {
      room = grind (arith, p.len, p.capacity, i.room);
      may = sample_may (AnswersCell (goal.F-post g) c.args.write.now) c.args.cells.now c.loop-cell.cell-index c.cell-item.result _ _ _ _ more i.may (_, refl, c.write.ensures) p.items;
    }
