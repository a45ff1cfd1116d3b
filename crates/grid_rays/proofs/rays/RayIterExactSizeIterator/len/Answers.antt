use Rattle.std.proofs.Common.{length, sym, ◌∙◌, ap}
use Rattle.grid_rays.proofs.RayLemmas.{length-cells_ahead}
use Rattle.grid_rays.proofs.rays.RayIterExactSizeIterator.len.Goals as goal

pub returns-clause-value : goal.returns-clause-value
returns-clause-value g c =
    let s = c.self.inside in
    sym (length-cells_ahead s.view.rows s.view.table s.step s.at s.left c.self.invariant) ∙ ap length c.self.view_is
