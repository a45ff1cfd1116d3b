-- The digits are text, and the number that they write is read.
use Rattle.std.proofs.Common.{◌≡◌, take, drop, rules, Some, None, IsUtf8}
use Rattle.std.proofs.lemmas.Str.{IsUtf8-from_ascii}
use Rattle.text_lines.specs.Numbers.{index_of}
use Rattle.grid_pnm.specs.Scan.{number_at, digit_count}
use Rattle.grid_pnm.proofs.ScanLemmas.{digits_are_ascii, number_is, number_none}
use Rattle.grid_pnm.proofs.scan.number_at.Goals as goal

pub returns-in_err-word-clause-number : goal.returns-in_err-word-clause-number
returns-in_err-word-clause-number c =
    let front : c.split_at.result.0.now ≡ take (digit_count c.args.bytes.now) c.args.bytes.now = search rules in
    let text : IsUtf8 c.split_at.result.0.now = rw front (IsUtf8-from_ascii _ (digits_are_ascii c.args.bytes.now)) in
    absurd (search rules)

pub returns-in_err-parse_index-clause-number : goal.returns-in_err-parse_index-clause-number
returns-in_err-parse_index-clause-number c =
    let front : c.split_at.result.0.now ≡ take (digit_count c.args.bytes.now) c.args.bytes.now = search rules in
    let back : c.split_at.result.1.now ≡ drop (digit_count c.args.bytes.now) c.args.bytes.now = search rules in
    let none : index_of c.split_at.result.0.now ≡ None = search rules in
    let is : number_at c.args.bytes.now ≡ None = number_none _ _ _ front back none in
    rw c.from_residual-in_err-parse_index.ensures is

pub returns-clause-number : goal.returns-clause-number
returns-clause-number c =
    let front : c.split_at.result.0.now ≡ take (digit_count c.args.bytes.now) c.args.bytes.now = search rules in
    let back : c.split_at.result.1.now ≡ drop (digit_count c.args.bytes.now) c.args.bytes.now = search rules in
    let some : index_of c.split_at.result.0.now ≡ Some c.in_ok-parse_index.field-0 = search rules in
    number_is _ _ _ front back _ some
