use Rattle.std.proofs.Common.{◌≡◌, ◌+◌, ap, length, refl, arith, ◌∙◌, slice_get}
use Rattle.grid_base.proofs.Common.{slice_get_read, row}
use Rattle.grid_pairs.proofs.AnswerLemmas.{appended_more}
use Rattle.grid_pairs.proofs.zip.push_beside_slice.Goals as goal

pub f-requires : goal.f-requires
f-requires g c =
    let k = c.loop-col.col in
    let others = c.args.others.now in
    let first : 0 + k ≡ k = omega arith in
    c.requires.calls.at k _ _ (ap (slice_get (row c.args.board.now.rows c.args.r)) first ∙ c.get_unchecked.ensures) (slice_get_read others (length others) k _ refl (omega arith) c.index-others-col.is)

pub loop-col-preserved : goal.loop-col-preserved
loop-col-preserved g c =
    let k = c.loop-col.col in
    let others = c.args.others.now in
    let i = c.loop-col.invariant in
    let p = c.push_reserved.ensures in
    record {
      room = p.capacity ∙ i.room;
      items = rw p.items (appended_more _ _ k _ _ _ _ c.f.result i.items
          (_, _, c.get_unchecked.ensures, slice_get_read others (length others) k _ refl (omega arith) c.index-others-col.is, c.f.ensures));
    }
