-- The record of all names.
use Rattle.std.proofs.Common.{◌≡◌, ◌∙◌, ◌<◌, ◌≤◌, IfOk, rules, ℕ, List, [], Vec, Global, ap, length, map, subst, take, arith, string_bytes, take_all}
use Rattle.std.specs.declared.string.String.{String}
use Rattle.grid_csv.proofs.Common.{default_writer, row_text, HasWritten}
use Rattle.grid_csv.proofs.Lemmas.{row_utf8, writer_start, written_text, strings_utf8, some_names}
use Rattle.csv.specs.declared.writer.Writer.{Writer}
use Rattle.grid_csv.proofs.write.header_text.Goals as goal

-- the writer has written the names, as all were taken
names_written : (w : Writer (Vec ℕ Global)) (n : ℕ) (header : List (String Global)) (fields : List (List ℕ)) → fields ≡ map string_bytes (take n header) → length header ≤ n → HasWritten w (row_text default_writer fields) → HasWritten w (row_text default_writer (map string_bytes header))
names_written w n header fields is all h =
    subst (λ names. HasWritten w (row_text default_writer names)) (is ∙ ap (map string_bytes) (take_all n header all)) h

pub text_of-requires : goal.text_of-requires
text_of-requires c =
    let from = c.from_writer-writer.ensures in
    let wrote = c.in_ok-write_record.ensures [] (writer_start _ _ from.wtr c.new-2.ensures.items from.empty from.cfg from.fields from.wrote) in
    (_, names_written _ _ c.args.header.now _ c.loop-name.invariant.fields (omega arith) wrote, row_utf8 _ (strings_utf8 c.args.header.now))

pub returns : goal.returns
returns c =
    let from = c.from_writer-writer.ensures in
    let wrote = c.in_ok-write_record.ensures [] (writer_start _ _ from.wtr c.new-2.ensures.items from.empty from.cfg from.fields from.wrote) in
    let text = written_text _ _ _ (names_written _ _ c.args.header.now _ c.loop-name.invariant.fields (omega arith) wrote) c.text_of.ensures in
    let some : 0 < length c.args.header.now = search rules in
    subst (λ xs. IfOk c.text_of.result (λ text. string_bytes text ≡ xs)) (some_names c.args.header.now some) text
