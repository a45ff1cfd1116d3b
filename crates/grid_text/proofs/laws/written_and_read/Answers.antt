-- What is read of the text of a table is the table.
use Rattle.std.proofs.Common.{◌≡◌, ◌∙◌, ap, Ok}
use Rattle.grid_text.proofs.Common.{lines_of, reading, table_text}
use Rattle.grid_text.proofs.Lemmas.{reads_back, back_ok, back_err}
use Rattle.grid_text.proofs.laws.written_and_read.Goals as goal

pub returns-clause-ok : goal.returns-clause-ok
returns-clause-ok g c = λ w h writes reads all.
    let text_is : c.as_str.result.now ≡ table_text w (g.V.AsView.rows c.args.board.now) = c.as_str.ensures.value ∙ c.in_ok-text.ensures.text w writes in
    let due : reading h (lines_of c.as_str.result.now) ≡ Ok (g.V.AsView.rows c.args.board.now) = ap (λ x. reading h (lines_of x)) text_is ∙ reads_back w h (g.V.AsView.rows c.args.board.now) all (g.met.V.AsView.table c.args.board.now) in
    back_ok _ _ due _ (c.from_text.ensures.reads h reads)

pub returns-clause-err : goal.returns-clause-err
returns-clause-err g c = λ w h writes reads all.
    let text_is : c.as_str.result.now ≡ table_text w (g.V.AsView.rows c.args.board.now) = c.as_str.ensures.value ∙ c.in_ok-text.ensures.text w writes in
    let due : reading h (lines_of c.as_str.result.now) ≡ Ok (g.V.AsView.rows c.args.board.now) = ap (λ x. reading h (lines_of x)) text_is ∙ reads_back w h (g.V.AsView.rows c.args.board.now) all (g.met.V.AsView.table c.args.board.now) in
    back_err _ _ due _ (c.from_text.ensures.reads h reads)
