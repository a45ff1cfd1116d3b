-- Each chunk is the next line.
use Rattle.std.proofs.Common.{◌≡◌, ◌<◌, ◌∙◌, length, min, sym, arith}
use Rattle.grid_play.proofs.CutLemmas.{cut_next, push_one}
use Rattle.grid_play.proofs.command.cut_lines.Goals as goal

pub loop-line-preserved : goal.loop-line-preserved
loop-line-preserved g c =
    let i = c.loop-line.invariant in
    let h = c.in-Some.ensures.steps in
    let some : 0 < c.args.len = omega arith in
    let short : length c.in-Some.line.now ≡ min c.args.len (length c.loop-line.line-iterator.rest.now) = rw i.size at h.1.1 in
    let next = cut_next c.args.len _ _ _ some h.1.0 short h.1.2 i.even in
    record {
      size = h.0 ∙ i.size;
      even = next.1;
      lines = i.lines ∙ push_one c.loop-line.lines.items _ _ _ _ _ next.0 (sym c.in_ok-from_slice.ensures.items) c.in_ok-push.ensures.items;
    }
