use Rattle.std.proofs.Common.{◌∙◌, ap}
use Rattle.grid_laws.proofs.Common.{flipped, act, act-act, act-identity, same_grid_value, flipped-flipped}
use Rattle.grid_base.specs.declared.words.Symmetry.TheVariants.{RotateLeft, RotateRight}
use Rattle.grid_laws.proofs.grids.rotate_right_then_left.Goals as goal

pub returns-clause-same : goal.returns-clause-same
returns-clause-same g c =
    same_grid_value _ _
    (c.rotate_left.ensures.rows
    ∙ (ap (act RotateLeft) c.rotate_right.ensures.rows ∙ (act-act RotateRight RotateLeft _ c.args.grid.now.table ∙ act-identity _ c.args.grid.now.table)))
    (c.rotate_left.ensures.order ∙ (ap flipped c.rotate_right.ensures.order ∙ flipped-flipped _))

pub returns-clause-law : goal.returns-clause-law
returns-clause-law g c = λ t h. act-act RotateRight RotateLeft t h ∙ act-identity t h
