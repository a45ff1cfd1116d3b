-- What was written is read back.
use Rattle.std.proofs.Common.{◌≡◌, map}
use Rattle.std.specs.List.{AllZip}
use Rattle.grid_csv.proofs.Lemmas.{read_ok, read_err, same_rows, same_texts, ok_more}
use Rattle.grid_csv.proofs.laws.written_and_read.Goals as goal

pub returns-clause-same : goal.returns-clause-same
returns-clause-same g c = λ w by all.
    let rows = g.V.AsView.rows c.args.board.now in
    ok_more (λ again. AllZip (AllZip (λ x y. y ≡ x)) rows again.rows) (λ again. again.rows ≡ rows) (λ again. same_rows rows again.rows) c.from_csv.result
    (read_ok (goal.W-post g) c.args.write (goal.R-post g) c.args.read w by (λ x y. y ≡ x) rows (g.met.V.AsView.table c.args.board.now) all _ c.in_ok-text.ensures.answers _ c.as_bytes.ensures.value _ c.from_csv.ensures.answers)

pub returns-clause-texts : goal.returns-clause-texts
returns-clause-texts g c = λ w by all.
    let rows = g.V.AsView.rows c.args.board.now in
    ok_more (λ again. AllZip (AllZip (λ x y. w y ≡ w x)) rows again.rows) (λ again. map (map w) again.rows ≡ map (map w) rows) (λ again. same_texts w rows again.rows) c.from_csv.result
    (read_ok (goal.W-post g) c.args.write (goal.R-post g) c.args.read w by (λ x y. w y ≡ w x) rows (g.met.V.AsView.table c.args.board.now) all _ c.in_ok-text.ensures.answers _ c.as_bytes.ensures.value _ c.from_csv.ensures.answers)

pub returns-clause-err : goal.returns-clause-err
returns-clause-err g c = λ w by all.
    read_err (goal.W-post g) c.args.write (goal.R-post g) c.args.read w by (λ x y. w y ≡ w x) (g.V.AsView.rows c.args.board.now) (g.met.V.AsView.table c.args.board.now) all _ c.in_ok-text.ensures.answers _ c.as_bytes.ensures.value _ c.from_csv.ensures.answers
