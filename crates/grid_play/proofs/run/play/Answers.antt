-- A good script writes the lines of its replies and its rows, and a bad one fails as it was read.
use Rattle.std.proofs.Common.{◌∙◌, map, refl, ap, string_bytes}
use Rattle.std.proofs.lemmas.Result.{err_from_is_err_and}
use Rattle.grid_commands.specs.Reply.{reply_value}
use Rattle.grid_play.specs.ScriptValue.{script_value}
use Rattle.grid_play.proofs.OutputLemmas.{script_fails, script_ends}
use Rattle.grid_play.proofs.run.play.Goals as goal

pub returns-in_err-grid : goal.returns-in_err-grid
returns-in_err-grid g c =
    let p = err_from_is_err_and c.from_residual-in_err-grid.result c.from_residual-in_err-grid.ensures.1 in
    rw (p.1, p.2) (script_fails c.args.input.now c.in_err-grid.field-0.0 c.in_err-grid.ensures)

pub returns : goal.returns
returns g c =
    let script = script_value c.in_ok-grid.field-0 in
    let answers = map reply_value c.as_slice.result.now in
    let replied = ap (map reply_value) c.as_slice.ensures.value ∙ c.in_ok-replies.ensures.replies in
    script_ends c.args.input.now script script.commands script.grid.rows _ answers (string_bytes c.new-output.result) _ _ c.in_ok-grid.ensures refl refl replied c.in_ok-replies.ensures.rows c.new-output.ensures.bytes c.in_ok-write_replies.ensures c.in_ok-write_rows.ensures
