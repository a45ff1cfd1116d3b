-- One row more, and its line feed.
use Rattle.std.proofs.Common.{ap}
use Rattle.grid_text.proofs.Common.{numbers, line_of_numbers}
use Rattle.grid_text.proofs.Lemmas.{row_more}
use Rattle.grid_text.proofs.write.to_words.Goals as goal

pub loop-row-preserved : goal.loop-row-preserved
loop-row-preserved g c =
    row_more line_of_numbers _ _ _ _ _ _ _ c.loop-row.invariant (ap (numbers g.T.Whole.whole) c.in-Some.ensures.steps) c.in_ok-push_numbers.ensures c.in_ok-push.ensures.bytes
