use Rattle.std.proofs.Common.{not, sym, ◌∙◌, ap, arith}
use Rattle.std.proofs.lemmas.Bool.{false≢true}
use Rattle.grid_images.proofs.ImageLemmas.{cells_agree}
use Rattle.grid_images.proofs.same.start_same.Goals as goal

pub returns-then-ne : goal.returns-then-ne
returns-then-ne g c = λ same.
    let x = c.get_unchecked.result.now in
    let y = c.get_unchecked-in-loop-c.result.now in
    let equal = cells_agree g.T.PartialEq.eq c.args.view.now.rows c.args.other.now.rows 0 c.loop-c.c x y (omega arith) (omega arith) c.get_unchecked.ensures c.get_unchecked-in-loop-c.ensures same in
    absurd (false≢true (sym (◌∙◌ {b = not (g.T.PartialEq.eq x y)} c.if-ne.ensures (ap not equal))))
