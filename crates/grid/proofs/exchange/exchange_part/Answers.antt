use Rattle.std.proofs.Common.{◌∙◌, ap}
use Rattle.grid.proofs.Common.{flipped-flipped}
use Rattle.grid.proofs.Lemmas.{part_across}
use Rattle.grid_base.specs.Order.{flipped}
use Rattle.grid.proofs.exchange.exchange_part.Goals as goal

pub returns-in-ColumnMajor : goal.returns-in-ColumnMajor
returns-in-ColumnMajor g c =
    let parts = c.exchange_rows-in-ColumnMajor in
    let order = c.transpose-in-ColumnMajor-2.ensures.order ∙ (ap flipped (parts.ensures.order ∙ c.transpose.ensures.order) ∙ flipped-flipped c.args.to.now.order) in
    let left_order = c.transpose-in-ColumnMajor-3.ensures.order ∙ (ap flipped (parts.ensures.left_order ∙ c.transpose-in-ColumnMajor.ensures.order) ∙ flipped-flipped c.args.from.now.order) in
    part_across c.args.at c.args.size.0 c.args.size.1 c.args.to.now c.args.from.now c.transpose-in-ColumnMajor-2.new.self c.transpose-in-ColumnMajor-3.new.self c.transpose.new.self
    c.transpose-in-ColumnMajor.new.self parts.new.to parts.new.from c.transpose.ensures.rows c.transpose-in-ColumnMajor.ensures.rows c.transpose-in-ColumnMajor-2.ensures.rows
    c.transpose-in-ColumnMajor-3.ensures.rows order left_order parts.ensures
