use Rattle.std.proofs.Common.{◌≡◌, ◌<◌, ◌∙◌, ap, length, take, arith}
use Rattle.grid_base.proofs.Common.{take_more_set}
use Rattle.grid_base.proofs.Lemmas.{FoldsTo-append}
use Rattle.std.proofs.lemmas.List.{length-take}
use Rattle.grid_base.proofs.flat.Flat.fill_with.Goals as goal

pub loop-cell-preserved : goal.loop-cell-preserved
loop-cell-preserved g c =
    let i = c.loop-cell.invariant in
    let lt : c.loop-cell.cell-index < length c.loop-cell.cells = omega arith in
    record {
      answers = rw (take_more_set c.loop-cell.cells c.loop-cell.cell-index c.f.result lt) (FoldsTo-append _ _ _ c.f.new.self _ c.f.result i.answers c.f.ensures);
    }

pub f-requires : goal.f-requires
f-requires g c =
    let len : length c.as_mut_slice-cells.result.now ≡ length c.args.self.now = ap length (c.as_mut_slice-cells.ensures.value ∙ c.self.view_is) in
    c.requires.at (take c.loop-cell.cell-index c.loop-cell.cells) c.loop-cell.f
    (omega (arith, length-take c.loop-cell.cell-index c.loop-cell.cells, len, c.loop-cell.auto.cells, c.loop-cell-test.true))
    c.loop-cell.invariant.answers
