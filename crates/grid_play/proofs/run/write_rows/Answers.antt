-- The debug text of a table, and a line end.
use Rattle.std.proofs.Common.{ℕ, List, subst, Option, OnOk, string_bytes}
use Rattle.std.specs.Fmt.{AppendsText}
use Rattle.grid_play.proofs.OutputLemmas.{table_is}
use Rattle.grid_play.proofs.run.write_rows.Goals as goal

pub returns : goal.returns
returns g c =
    let Appends : Option (List ℕ) → Type 0 = λ text. OnOk c.writeln.result (AppendsText (string_bytes c.args.output.now) (string_bytes c.writeln.new.self) text) in
    subst Appends (table_is c.args.grid.now.rows) c.writeln.ensures.bytes
