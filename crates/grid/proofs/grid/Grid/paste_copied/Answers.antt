use Rattle.std.proofs.Common.{refl}
use Rattle.grid.proofs.Common.{held}
use Rattle.grid.proofs.Lemmas.{pasted}
use Rattle.grid.proofs.grid.Grid.paste_copied.Goals as goal

pub returns-clause-rows : goal.returns-clause-rows
returns-clause-rows g c =
    let view = c.args.view.now in
    pasted c.args.at view.rows c.args.self.now.rows view.table _ _ c.args.self.now (held view) c.copy_part.new.to (held view) refl refl refl refl c.copy_part.ensures
