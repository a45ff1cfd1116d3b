use Rattle.std.proofs.Common.{rules, sym, ◌∙◌, ap}
use Rattle.grid.proofs.Common.{rows-act, cols-act, view-transpose, view-storage, HoldsSize-transposed}
use Rattle.grid_base.specs.Table.{row_count, col_count}
use Rattle.grid.proofs.grid.Grid.transpose.Goals as goal

pub returns-clause-rows : goal.returns-clause-rows
returns-clause-rows g c =
    rw (c.flipped-self-inside.ensures, c.swap.ensures.x_after, c.swap.ensures.y_after, ← c.self.view_is) (view-transpose _ _ _ _ c.self.inside.fits)

pub returns-clause-storage : goal.returns-clause-storage
returns-clause-storage g c =
    rw (c.flipped-self-inside.ensures, c.swap.ensures.x_after, c.swap.ensures.y_after, ← c.self.view_is)
    (view-storage _ _ _ _ (HoldsSize-transposed _ _ _ c.self.inside.fits) ∙ sym (view-storage _ _ _ _ c.self.inside.fits))

pub returns-clause-row_count : goal.returns-clause-row_count
returns-clause-row_count g c = ap row_count (returns-clause-rows g c) ∙ rows-act _ _

pub returns-clause-col_count : goal.returns-clause-col_count
returns-clause-col_count g c = ap col_count (returns-clause-rows g c) ∙ cols-act _ _ c.args.self.now.table

pub returns-clause-order : goal.returns-clause-order
returns-clause-order g c = search rules
