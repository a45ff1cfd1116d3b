-- The grid is the one that its cells in storage order make.
use Rattle.std.proofs.Common.{◌≡◌, ◌<◌, ◌^◌, length, sym, ◌∙◌, rules}
use Rattle.grid_play.specs.Script.{grid_of_words, grid_from}
use Rattle.grid_play.proofs.GridLemmas.{grid_is}
use Rattle.grid_base.specs.Order.{CanCut}
use Rattle.text_lines.specs.Lines.{words_of}
use Rattle.grid_play.proofs.script.grid_of_words.Goals as goal

pub returns : goal.returns
returns g c =
    let e = c.from_vec_with_order.ensures in
    let can : CanCut (length c.in-Some.cells.items) c.in-Some-Some-2.cols = search rules in
    let small : length c.in-Some.cells.items < 2 ^ 64 = search rules in
    let is = grid_is c.in-Some-Some-2.order c.in-Some-Some-2.cols c.in-Some.cells.items _ _ can small e.order c.from_vec_with_order.result.table e.storage e.cols in
    let due : grid_of_words (words_of c.args.words.0.now) ≡ grid_from c.in-Some-Some-2.order c.in-Some-Some-2.cols c.in-Some.cells.items = search rules in
    is ∙ sym due
