use Rattle.std.proofs.Common.{◌<◌, [], Some, sym, ◌∙◌, ap, arith, rules}
use Rattle.grid.proofs.Common.{slice_get-get_or, row_count}
use Rattle.grid.proofs.Lemmas.{storage-one}
use Rattle.grid.proofs.grid.Grid.remove_row.Goals as goal

pub returns-clause-line : goal.returns-clause-line
returns-clause-line g c =
    let old = c.args.self.now in
    let within : c.args.at < row_count old.rows = omega (arith, c.rows.ensures.rows, c.if-at-rows.false) in
    slice_get-get_or old.rows c.args.at [] within
    ∙ ap Some (sym (c.in_ok-line.ensures.cells ∙ storage-one old.order old.rows c.args.at old.table within))

pub returns-clause-rows : goal.returns-clause-rows
returns-clause-rows = search rules
