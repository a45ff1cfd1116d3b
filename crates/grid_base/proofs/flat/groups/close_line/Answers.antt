use Rattle.grid_base.proofs.Lemmas.{closed_by_reversals}
use Rattle.grid_base.proofs.flat.groups.close_line.Goals as goal

pub returns-clause-lines : goal.returns-clause-lines
returns-clause-lines g c =
    closed_by_reversals _ _ _ _ _ c.reverse_part.new.cells _ c.requires.single c.args.groups.within c.reverse_part.ensures c.reverse_part-2.ensures
