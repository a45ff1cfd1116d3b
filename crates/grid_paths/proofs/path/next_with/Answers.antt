use Rattle.std.proofs.Common.{subst, sym}
use Rattle.grid_paths.proofs.Common.{IsStep, IsMarked}
use Rattle.grid_paths.proofs.Lemmas.{step_side, step_any}
use Rattle.grid_paths.proofs.path.next_with.Goals as goal

pub returns-in-Some : goal.returns-in-Some
returns-in-Some g c =
    λ connectivity b s m.
    let steps = c.args.steps.now in
    let side = c.in-Some.ensures in
    (step_side steps.rows steps.table steps.fits.rows steps.fits.cols c.args.at c.around-near.result c.args.count c.around-near.ensures.sides c.in-Some.side side.0 side.1 connectivity, side.1)

pub returns : goal.returns
returns g c =
    λ connectivity b s m.
    let steps = c.args.steps.now in
    subst (λ x. IsStep connectivity c.args.at x × IsMarked steps.rows x c.args.count) (sym c.unwrap_or.ensures)
    (step_any steps.rows steps.table steps.fits.rows steps.fits.cols c.args.at c.around-near.result c.args.count c.around-near.ensures.sides c.around-near.ensures.all
    c.in_default.ensures c.first_with-2.result c.first_with-2.ensures connectivity b s m)
