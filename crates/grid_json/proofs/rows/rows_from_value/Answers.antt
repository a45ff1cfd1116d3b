-- What the closure answers is what the function gives.
use Rattle.std.proofs.Common.{◌∙◌, ap}
use Rattle.grid_json.proofs.Common.{AnswersItem, GivenBy}
use Rattle.grid_json.proofs.Lemmas.{may_more}
use Rattle.grid_json.proofs.rows.rows_from_value.Goals as goal

pub returns-clause-reads : goal.returns-clause-reads
returns-clause-reads g c = λ h by.
    record { is = may_more (AnswersItem (goal.F-post g) c.args.read) (GivenBy h) (λ d cell a. by a.value cell a.answers ∙ ap h a.is_data) _ _ c.read_rows.ensures }
