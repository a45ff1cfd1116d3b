use Rattle.std.proofs.Common.{Some, sym, ap, ◌∙◌}
use Rattle.grid_paths.proofs.Lemmas.{numbers-there}
use Rattle.grid_paths.proofs.costs.Frontier.number_at.Goals as goal

pub returns : goal.returns
returns g c =
    let t = c.args.self.now.sums.rows in
    numbers-there g.N.Width.reads t c.args.at.0 c.args.at.1 c.index.result.now c.index.ensures ∙ ap Some (sym c.sum.ensures)
