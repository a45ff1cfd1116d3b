use Rattle.grid_paths.proofs.Lemmas.{Enters-around}
use Rattle.grid_paths.proofs.costs.Frontier.relax_around.Goals as goal

pub returns : goal.returns
returns g c =
    let x = c.args.from in
    let v = c.visit_around.ensures in
    Enters-around x.sum c.args.connectivity x.at v.0 v.1 c.visit_around.result c.args.self.now c.visit_around.new.search c.requires.whole v.2
