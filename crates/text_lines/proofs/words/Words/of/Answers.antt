-- A line is text exactly where the test says so.
use Rattle.std.proofs.Common.{◌≡◌, false, sym, ◌∙◌, rules, is_some, IsUtf8}
use Rattle.std.proofs.lemmas.Bool.{false_from_ne_true}
use Rattle.std.proofs.lemmas.Str.{IsUtf8-from_is_utf8, is_utf8-from_IsUtf8}
use Rattle.text_lines.proofs.words.Words.of.Goals as goal

pub returns-in_err-text-clause-text : goal.returns-in_err-text-clause-text
returns-in_err-text-clause-text c =
    let no : ¬ (IsUtf8 c.args.line.now) = search rules in
    let none : is_some c.from_residual.result ≡ false = search rules in
    none ∙ sym (false_from_ne_true _ (λ e. no (IsUtf8-from_is_utf8 _ e)))

pub returns-clause-text : goal.returns-clause-text
returns-clause-text c =
    let yes : IsUtf8 c.args.line.now = search rules in
    sym (is_utf8-from_IsUtf8 _ yes)
