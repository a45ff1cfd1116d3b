use Rattle.std.proofs.Common.{◌∙◌, ap, arith}
use Rattle.grid.proofs.Common.{sub_table}
use Rattle.grid_base.specs.Table.{row_count, col_count}
use Rattle.grid.proofs.grid.Grid.part.Goals as goal

pub part-requires : goal.part-requires
part-requires g c = record {
  rows_in = omega (arith, ap row_count c.view.ensures, c.requires.rows_in);
  cols_in = omega (arith, ap col_count c.view.ensures, c.requires.cols_in);
}

pub returns : goal.returns
returns g c = record {
  rows = λ a b. c.part.ensures.rows a b ∙ ap (λ t. sub_table t c.args.at c.args.size) c.view.ensures;
  none = c.part.ensures.none;
  row_count = c.part.ensures.row_count;
  col_count = c.part.ensures.col_count;
}
