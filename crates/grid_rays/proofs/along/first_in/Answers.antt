use Rattle.std.proofs.Common.{subst, ◌∙◌}
use Rattle.grid_rays.specs.Rays.{ray, IsRay}
use Rattle.grid_rays.proofs.AlongLemmas.{IsPassing-start, IsPassing-next, IsPassing-found, IsPassing-end}
use Rattle.grid_rays.proofs.along.first_in.Goals as goal

pub loop-to-init : goal.loop-to-init
loop-to-init g c =
    let t = c.args.board.now.rows in
    let is = subst (IsRay t c.args.way c.args.at) (rw c.view.ensures at c.ray_of-to-items.ensures).gives.0 (rw c.view.ensures at c.ray_of-to-items.ensures).ray in
    (tt, tt, IsPassing-start t c.args.way c.args.at (ray t c.args.way c.args.at) is (goal.F-post g) c.args.test.now c.into_iter-to-iterator.result (c.into_iter-to-iterator.ensures.into_iter_gives ∙ (rw c.view.ensures at c.ray_of-to-items.ensures).gives.0))

pub returns-then-test : goal.returns-then-test
returns-then-test g c =
    let t = c.args.board.now.rows in
    let is = subst (IsRay t c.args.way c.args.at) (rw c.view.ensures at c.ray_of-to-items.ensures).gives.0 (rw c.view.ensures at c.ray_of-to-items.ensures).ray in
    IsPassing-found t c.args.way c.args.at (ray t c.args.way c.args.at) is (goal.F-post g) c.args.test.now c.loop-to.to-iterator c.next.new.self c.in-Some.to c.in-Some.cell c.in-Some.ensures.steps c.loop-to.invariant.2 c.if-test.ensures

pub loop-to-preserved : goal.loop-to-preserved
loop-to-preserved g c =
    let t = c.args.board.now.rows in
    let is = subst (IsRay t c.args.way c.args.at) (rw c.view.ensures at c.ray_of-to-items.ensures).gives.0 (rw c.view.ensures at c.ray_of-to-items.ensures).ray in
    (tt, tt, IsPassing-next t c.args.way c.args.at (ray t c.args.way c.args.at) is (goal.F-post g) c.args.test.now c.loop-to.to-iterator c.next.new.self c.in-Some.to c.in-Some.cell c.in-Some.ensures.steps c.loop-to.invariant.2 c.if-test.ensures)

pub returns : goal.returns
returns g c =
    let t = c.args.board.now.rows in
    let is = subst (IsRay t c.args.way c.args.at) (rw c.view.ensures at c.ray_of-to-items.ensures).gives.0 (rw c.view.ensures at c.ray_of-to-items.ensures).ray in
    IsPassing-end t c.args.way c.args.at (ray t c.args.way c.args.at) is (goal.F-post g) c.args.test.now c.loop-to.to-iterator c.in-None.ensures.steps.0 c.loop-to.invariant.2
