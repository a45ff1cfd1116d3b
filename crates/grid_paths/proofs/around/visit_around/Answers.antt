use Rattle.std.proofs.Common.{take, sym, subst}
use Rattle.grid_paths.proofs.Common.{AreSteps}
use Rattle.grid_paths.proofs.around.visit_around.Goals as goal

pub returns-in-Four : goal.returns-in-Four
returns-in-Four g c =
    let four = take 4 c.around-near.result in
    (four, subst (λ connectivity. AreSteps connectivity c.args.at four) (sym c.in-Four.is) c.around-near.ensures.sides, c.visit_each.ensures)

pub returns-in-Eight : goal.returns-in-Eight
returns-in-Eight g c =
    let eight = c.around-near.result in
    (eight, subst (λ connectivity. AreSteps connectivity c.args.at eight) (sym c.in-Eight.is) c.around-near.ensures.all, c.visit_each-in-Eight.ensures)
