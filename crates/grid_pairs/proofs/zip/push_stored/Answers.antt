use Rattle.std.proofs.Common.{◌≡◌, ◌+◌, ap, length, refl, arith, ◌∙◌, slice_get}
use Rattle.grid_base.proofs.Common.{slice_get_read}
use Rattle.grid_pairs.proofs.AnswerLemmas.{appended_more}
use Rattle.grid_pairs.proofs.zip.push_stored.Goals as goal

pub f-requires : goal.f-requires
f-requires g c =
    let k = c.loop-k.k in
    let cells = c.args.cells.now in
    let others = c.args.others.now in
    let first : 0 + k ≡ k = omega arith in
    c.requires.calls.at k _ _ (ap (slice_get cells) first ∙ slice_get_read cells (length cells) k _ refl (omega arith) c.index-cells-k.is) (slice_get_read others (length others) k _ refl (omega (arith, c.requires.len)) c.index-others-k.is)

pub loop-k-preserved : goal.loop-k-preserved
loop-k-preserved g c =
    let k = c.loop-k.k in
    let cells = c.args.cells.now in
    let others = c.args.others.now in
    let i = c.loop-k.invariant in
    let p = c.push_reserved.ensures in
    record {
      room = p.capacity ∙ i.room;
      items = rw p.items (appended_more _ _ k _ _ _ _ c.f.result i.items
          (_, _, slice_get_read cells (length cells) k _ refl (omega arith) c.index-cells-k.is, slice_get_read others (length others) k _ refl (omega (arith, c.requires.len)) c.index-others-k.is, c.f.ensures));
    }
