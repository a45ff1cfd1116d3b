use Rattle.std.proofs.Common.{◌∙◌, ◌≡◌, ap, refl, subst, sym}
use Rattle.grid.proofs.Common.{flipped, flipped-flipped, row_count, col_count, act, InRows, PartTaken}
use Rattle.grid.proofs.Lemmas.{across-across, part_across}
use Rattle.grid_base.specs.declared.words.Symmetry.TheVariants.{Transpose}
use Rattle.grid.proofs.exchange.move_part.Goals as goal

pub returns-in-ColumnMajor : goal.returns-in-ColumnMajor
returns-in-ColumnMajor g c =
    let from = c.args.from in
    let across = c.transpose-in-ColumnMajor.new.self in
    let turned = c.transpose-in-ColumnMajor.ensures in
    let moved = c.move_rows-in-ColumnMajor in
    let order = c.transpose-in-ColumnMajor-2.ensures.order ∙ (ap flipped (moved.ensures.order ∙ c.transpose.ensures.order) ∙ flipped-flipped c.args.to.now.order) in
    let back : from.rows ≡ act Transpose across.rows = sym (ap (act Transpose) turned.rows ∙ across-across from.rows from.table) in
    let part =
    subst (λ n. PartTaken (InRows (col_count from.rows) n) (c.args.at.1, c.args.at.0) c.transpose.new.self across moved.new.to across) turned.col_count
    (subst (λ m. PartTaken (InRows m (col_count across.rows)) (c.args.at.1, c.args.at.0) c.transpose.new.self across moved.new.to across) turned.row_count moved.ensures) in
    part_across c.args.at (row_count from.rows) (col_count from.rows) c.args.to.now from c.transpose-in-ColumnMajor-2.new.self from c.transpose.new.self across moved.new.to across
    c.transpose.ensures.rows turned.rows c.transpose-in-ColumnMajor-2.ensures.rows back order refl part
