use Rattle.std.proofs.Common.{◌<◌, arith, ⊎_elim}
use Rattle.std.proofs.lemmas.Bool.{cases_lt}
use Rattle.grid_base.specs.Table.{row_count, col_count}
use Rattle.grid_near.specs.Directions.{box_of}
use Rattle.grid_rays.proofs.RayLemmas.{HasSteps-size, beyond_size, cells_are_ray, GivesRay-cells, IsRay-cells, length-cells_ahead}
use Rattle.grid_rays.proofs.rays.ray_of.Goals as goal

pub returns-clause-gives : goal.returns-clause-gives
returns-clause-gives g c =
    let t = c.args.view.rows in
    let left = c.steps_to_edge.result in
    let edge = c.steps_to_edge.ensures in
    let size = c.requires in
    let steps = HasSteps-size c.args.size (box_of c.args.way) c.args.at (row_count t) (col_count t) size.rows size.cols left edge.reaches in
    let beyond = beyond_size c.args.size (box_of c.args.way) c.args.at (row_count t) (col_count t) size.rows size.cols left edge.beyond in
    rw (c.step_of.ensures) (GivesRay-cells t c.args.view.table c.args.way c.args.at left steps (cells_are_ray t c.args.view.table c.args.way c.args.at left steps beyond (λ inside. omega (arith, edge.few, size.rows, size.cols)) (λ outside.
    ⊎_elim (λ (some : 0 < left). let in_size = edge.within some in absurd (outside (omega (arith, in_size.0, size.rows), omega (arith, in_size.1, size.cols)))) (λ none. omega arith) (cases_lt 0 left))))

pub returns-clause-ray : goal.returns-clause-ray
returns-clause-ray g c =
    let t = c.args.view.rows in
    let left = c.steps_to_edge.result in
    let edge = c.steps_to_edge.ensures in
    let size = c.requires in
    let steps = HasSteps-size c.args.size (box_of c.args.way) c.args.at (row_count t) (col_count t) size.rows size.cols left edge.reaches in
    let beyond = beyond_size c.args.size (box_of c.args.way) c.args.at (row_count t) (col_count t) size.rows size.cols left edge.beyond in
    rw (c.step_of.ensures) (IsRay-cells t c.args.view.table c.args.way c.args.at left steps (λ some. let in_size = edge.within some in (omega (arith, in_size.0, size.rows), omega (arith, in_size.1, size.cols))) beyond)

pub returns-clause-small : goal.returns-clause-small
returns-clause-small g c = λ less-rows less-cols.
    let t = c.args.view.rows in
    let left = c.steps_to_edge.result in
    let size = c.requires in
    let steps = HasSteps-size c.args.size (box_of c.args.way) c.args.at (row_count t) (col_count t) size.rows size.cols left c.steps_to_edge.ensures.reaches in
    rw (c.step_of.ensures) (omega (arith, length-cells_ahead t c.args.view.table (box_of c.args.way) c.args.at left steps, c.steps_to_edge.ensures.small less-rows less-cols))

pub returns-clause-below : goal.returns-clause-below
returns-clause-below g c =
    let t = c.args.view.rows in
    let left = c.steps_to_edge.result in
    let size = c.requires in
    let steps = HasSteps-size c.args.size (box_of c.args.way) c.args.at (row_count t) (col_count t) size.rows size.cols left c.steps_to_edge.ensures.reaches in
    rw (c.step_of.ensures) (omega (arith, length-cells_ahead t c.args.view.table (box_of c.args.way) c.args.at left steps))
