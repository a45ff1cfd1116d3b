use Rattle.std.proofs.Common.{sym, ◌∙◌}
use Rattle.grid_paths.proofs.Lemmas.{CanUndo-each, Takes-around}
use Rattle.grid_paths.proofs.taken.Taking.take_around.Goals as goal

pub returns-in-On-clause-kept : goal.returns-in-On-clause-kept
returns-in-On-clause-kept g c =
    let v = c.visit_around.ensures in
    CanUndo-each g.T.PartialEq.eq c.args.cells v.0 c.visit_around.result c.args.self.now c.visit_around.new.search v.2

pub returns-in-On-clause-takes : goal.returns-in-On-clause-takes
returns-in-On-clause-takes g c =
    let v = c.visit_around.ensures in
    Takes-around g.T.PartialEq.eq c.args.cells c.args.connectivity c.args.from v.0 v.1 (sym c.way_at.ensures ∙ c.in-On.is) c.visit_around.result c.args.self.now c.visit_around.new.search v.2
