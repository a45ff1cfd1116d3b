use Rattle.std.proofs.Common.{◌∙◌, ap}
use Rattle.grid_laws.proofs.Common.{act, act-act, act-identity, same_grid_value, flipped-flipped}
use Rattle.grid_base.specs.declared.words.Symmetry.TheVariants.{RotateLeft}
use Rattle.grid_laws.proofs.grids.rotate_left_four_times.Goals as goal

pub returns-clause-law : goal.returns-clause-law
returns-clause-law g c = λ t h.
    ap (λ u. act RotateLeft (act RotateLeft u)) (act-act RotateLeft RotateLeft t h)
    ∙ (ap (act RotateLeft) (act-act _ RotateLeft t h) ∙ (act-act _ RotateLeft t h ∙ act-identity t h))

pub returns-clause-same : goal.returns-clause-same
returns-clause-same g c =
    let once = c.rotate_left.ensures in
    let twice = c.rotate_left-2.ensures in
    let thrice = c.rotate_left-3.ensures in
    let last = c.rotate_left-4.ensures in
    same_grid_value _ _
    (rw (last.rows, thrice.rows, twice.rows, once.rows) (returns-clause-law g c _ c.args.grid.now.table))
    (rw (last.order, thrice.order, twice.order, once.order) (flipped-flipped _ ∙ flipped-flipped _))
