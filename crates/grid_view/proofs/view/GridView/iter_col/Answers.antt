use Rattle.std.proofs.Common.{◌∙◌, ap, arith}
use Rattle.grid_base.specs.Table.{row_count, col_count}
use Rattle.grid_base.specs.declared.words.Symmetry.TheVariants.{Transpose}
use Rattle.grid_base.proofs.ActLemmas.{cols-act}
use Rattle.grid_view.proofs.view.GridView.iter_col.Goals as goal
use Rattle.grid_base.proofs.TableLemmas.{rows-transposed}

pub iter_row-requires : goal.iter_row-requires
iter_row-requires g c = omega (arith, ap row_count c.transposed.ensures.rows, rows-transposed c.args.self.now.rows, c.requires)

pub returns-clause-len : goal.returns-clause-len
returns-clause-len g c =
    c.iter_row.ensures.len ∙ (ap col_count c.transposed.ensures.act ∙ cols-act Transpose c.args.self.now.rows c.args.self.now.table)
