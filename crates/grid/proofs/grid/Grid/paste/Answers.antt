use Rattle.std.proofs.Common.{refl}
use Rattle.grid.proofs.Lemmas.{pasted}
use Rattle.grid.proofs.grid.Grid.paste.Goals as goal

pub returns-clause-rows : goal.returns-clause-rows
returns-clause-rows g c =
    let view = c.args.view.now in
    let copies = c.in_ok-copies.copies in
    pasted c.args.at view.rows c.args.self.now.rows view.table _ _ c.args.self.now copies c.move_part.new.to copies refl refl c.in_ok-copies.ensures.rows refl c.move_part.ensures
