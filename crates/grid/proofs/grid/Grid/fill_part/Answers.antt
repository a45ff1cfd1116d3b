use Rattle.std.proofs.Common.{refl}
use Rattle.grid.proofs.Lemmas.{filled_part}
use Rattle.grid.proofs.grid.Grid.fill_part.Goals as goal

pub returns-clause-rows : goal.returns-clause-rows
returns-clause-rows g c =
    let copies = c.in-Ok.copies in
    let made = c.in-Ok.ensures in
    filled_part c.args.at c.args.size c.args.value _ _ c.args.self.now copies c.move_part.new.to copies refl refl made.made.size made.cells c.move_part.ensures
