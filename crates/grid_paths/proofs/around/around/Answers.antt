use Rattle.grid_paths.proofs.Lemmas.{AreSteps-sides, AreSteps-all}
use Rattle.grid_paths.proofs.around.around.Goals as goal

pub returns-clause-sides : goal.returns-clause-sides
returns-clause-sides c = AreSteps-sides c.args.row c.args.col c.requires.row_in c.requires.col_in

pub returns-clause-all : goal.returns-clause-all
returns-clause-all c = AreSteps-all c.args.row c.args.col c.requires.row_in c.requires.col_in
