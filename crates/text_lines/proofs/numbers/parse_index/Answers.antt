-- What `parse` reads of a word without a plus.
use Rattle.std.proofs.Common.{◌≡◌, ◌≢◌, get_or, sym, ◌∙◌, rules}
use Rattle.text_lines.proofs.NumberLemmas.{index_plus, index_from}
use Rattle.text_lines.proofs.numbers.parse_index.Goals as goal

pub returns-then-starts_with : goal.returns-then-starts_with
returns-then-starts_with c =
    let plus : get_or c.args.word.now 0 0 ≡ 43 = search rules in
    sym (index_plus c.args.word.now plus)

pub returns : goal.returns
returns c =
    let plain : get_or c.args.word.now 0 0 ≢ 43 = search rules in
    c.ok.ensures.value ∙ index_from c.args.word.now _ plain c.parse.ensures.value.0
