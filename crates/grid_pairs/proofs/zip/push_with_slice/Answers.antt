use Rattle.std.proofs.Common.{◌≡◌, ◌+◌, ap, length, refl, arith, ◌∙◌, slice_get}
use Rattle.grid_base.proofs.Common.{slice_get_read}
use Rattle.grid_pairs.proofs.AnswerLemmas.{appended_more}
use Rattle.grid_pairs.proofs.zip.push_with_slice.Goals as goal

pub f-requires : goal.f-requires
f-requires g c =
    let k = c.loop-col.col in
    let cells = c.args.cells.now in
    let first : 0 + k ≡ k = omega arith in
    c.requires.calls.at k _ _ (ap (slice_get cells) first ∙ slice_get_read cells (length cells) k _ refl (omega arith) c.index-cells-col.is) c.get_unchecked.ensures

pub loop-col-preserved : goal.loop-col-preserved
loop-col-preserved g c =
    let k = c.loop-col.col in
    let cells = c.args.cells.now in
    let i = c.loop-col.invariant in
    let p = c.push_reserved.ensures in
    record {
      room = p.capacity ∙ i.room;
      items = rw p.items (appended_more _ _ k _ _ _ _ c.f.result i.items
          (_, _, slice_get_read cells (length cells) k _ refl (omega arith) c.index-cells-col.is, c.get_unchecked.ensures, c.f.ensures));
    }
