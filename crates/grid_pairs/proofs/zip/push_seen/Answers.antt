use Rattle.std.proofs.Common.{◌∙◌}
use Rattle.grid_pairs.proofs.AnswerLemmas.{appended_more}
use Rattle.grid_pairs.proofs.zip.push_seen.Goals as goal

pub loop-col-preserved : goal.loop-col-preserved
loop-col-preserved g c =
    let i = c.loop-col.invariant in
    let p = c.push_reserved.ensures in
    record {
      room = p.capacity ∙ i.room;
      items = rw p.items (appended_more _ _ c.loop-col.col _ _ _ _ c.f.result i.items (_, _, c.get_unchecked.ensures, c.get_unchecked-in-loop-col.ensures, c.f.ensures));
    }
