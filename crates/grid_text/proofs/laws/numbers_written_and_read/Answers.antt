-- What is read of the text of a table of numbers is the table.
use Rattle.std.proofs.Common.{◌≡◌, ◌∙◌, ap, Ok}
use Rattle.grid_text.proofs.Common.{lines_of, numbers, reading_words, numbers_text}
use Rattle.grid_text.proofs.Lemmas.{numbers_back, back_ok, back_err}
use Rattle.grid_text.proofs.laws.numbers_written_and_read.Goals as goal

pub returns-clause-ok : goal.returns-clause-ok
returns-clause-ok g c = λ h reads all.
    let w = g.T.Whole.whole in
    let t = g.V.AsView.rows c.args.board.now in
    let text_is : c.as_str.result.now ≡ numbers_text (numbers w t) = c.as_str.ensures.value ∙ c.in_ok-text.ensures in
    let due : reading_words h (lines_of c.as_str.result.now) ≡ Ok t = ap (λ x. reading_words h (lines_of x)) text_is ∙ numbers_back w h t all (g.met.V.AsView.table c.args.board.now) in
    back_ok _ _ due _ (c.from_words.ensures.reads h reads)

pub returns-clause-err : goal.returns-clause-err
returns-clause-err g c = λ h reads all.
    let w = g.T.Whole.whole in
    let t = g.V.AsView.rows c.args.board.now in
    let text_is : c.as_str.result.now ≡ numbers_text (numbers w t) = c.as_str.ensures.value ∙ c.in_ok-text.ensures in
    let due : reading_words h (lines_of c.as_str.result.now) ≡ Ok t = ap (λ x. reading_words h (lines_of x)) text_is ∙ numbers_back w h t all (g.met.V.AsView.table c.args.board.now) in
    back_err _ _ due _ (c.from_words.ensures.reads h reads)
