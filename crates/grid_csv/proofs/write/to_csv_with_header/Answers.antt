use Rattle.std.proofs.Common.{[], ◌∙◌, ◌++◌, ap, map, string_bytes}
use Rattle.grid_csv.proofs.Common.{sheet_text, below_names}
use Rattle.grid_csv.proofs.Lemmas.{below_joined}
use Rattle.grid_csv.proofs.write.to_csv_with_header.Goals as goal

pub returns-clause-text : goal.returns-clause-text
returns-clause-text g c = λ h by.
    let names = map string_bytes c.args.header.now in
    let rows = c.in_ok-to_csv.ensures.text h by in
    record {
      is = c.in_ok-push_str.ensures.bytes
          ∙ (ap (λ xs. xs ++ c.as_str.result.now) c.in_ok-text.ensures
          ∙ (ap (λ xs. sheet_text (below_names names []) ++ xs) (c.as_str.ensures.value ∙ rows.is) ∙ below_joined names (map (map h) (g.V.AsView.rows c.args.board.now))));
    }
