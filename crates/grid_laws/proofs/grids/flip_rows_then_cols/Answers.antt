use Rattle.std.proofs.Common.{◌∙◌, ap}
use Rattle.grid_base.specs.declared.words.Symmetry.TheVariants.{FlipCols, FlipRows}
use Rattle.grid_laws.proofs.Common.{act, act-act}
use Rattle.grid_laws.proofs.grids.flip_rows_then_cols.Goals as goal

pub returns-clause-rows : goal.returns-clause-rows
returns-clause-rows g c =
    c.flip_cols.ensures.rows ∙ (ap (act FlipCols) c.flip_rows.ensures.rows ∙ act-act FlipRows FlipCols _ c.args.grid.now.table)

pub returns-clause-law : goal.returns-clause-law
returns-clause-law g c = λ t h. act-act FlipRows FlipCols t h
