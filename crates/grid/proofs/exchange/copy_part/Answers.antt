use Rattle.std.proofs.Common.{◌∙◌, ◌≡◌, ap, refl, sym, subst, arith}
use Rattle.grid.proofs.Common.{flipped, row_count, col_count, act, rows-act, cols-act, flipped-flipped, InRows, PartTaken, held}
use Rattle.grid.proofs.Lemmas.{across-across, part_across}
use Rattle.grid_base.specs.declared.words.Symmetry.TheVariants.{Transpose}
use Rattle.grid.proofs.exchange.copy_part.Goals as goal

pub copy_rows-requires-in-ColumnMajor-clause-to_rows : goal.copy_rows-requires-in-ColumnMajor-clause-to_rows
copy_rows-requires-in-ColumnMajor-clause-to_rows g c =
    let view = c.args.view.now in
    let height : row_count c.transposed.result.rows ≡ col_count view.rows = ap row_count c.transposed.ensures.act ∙ rows-act Transpose view.rows in
    omega (arith, height, c.transpose.ensures.row_count, c.requires.to_cols)

pub copy_rows-requires-in-ColumnMajor-clause-to_cols : goal.copy_rows-requires-in-ColumnMajor-clause-to_cols
copy_rows-requires-in-ColumnMajor-clause-to_cols g c =
    let view = c.args.view.now in
    let width : col_count c.transposed.result.rows ≡ row_count view.rows = ap col_count c.transposed.ensures.act ∙ cols-act Transpose view.rows view.table in
    omega (arith, width, c.transpose.ensures.col_count, c.requires.to_rows)

pub returns-in-ColumnMajor : goal.returns-in-ColumnMajor
returns-in-ColumnMajor g c =
    let view = c.args.view.now in
    let copied = c.copy_rows-in-ColumnMajor in
    let height : row_count c.transposed.result.rows ≡ col_count view.rows = ap row_count c.transposed.ensures.act ∙ rows-act Transpose view.rows in
    let width : col_count c.transposed.result.rows ≡ row_count view.rows = ap col_count c.transposed.ensures.act ∙ cols-act Transpose view.rows view.table in
    let order = c.transpose-in-ColumnMajor.ensures.order ∙ (ap flipped (copied.ensures.order ∙ c.transpose.ensures.order) ∙ flipped-flipped c.args.to.now.order) in
    let back : view.rows ≡ act Transpose c.transposed.result.rows = sym (ap (act Transpose) c.transposed.ensures.act ∙ across-across view.rows view.table) in
    let part =
    subst (λ n. PartTaken (InRows (col_count view.rows) n) (c.args.at.1, c.args.at.0) c.transpose.new.self (held c.transposed.result) copied.new.to (held c.transposed.result)) width
    (subst (λ m. PartTaken (InRows m (col_count c.transposed.result.rows)) (c.args.at.1, c.args.at.0) c.transpose.new.self (held c.transposed.result) copied.new.to (held c.transposed.result)) height copied.ensures) in
    part_across c.args.at (row_count view.rows) (col_count view.rows) c.args.to.now (held view) c.transpose-in-ColumnMajor.new.self (held view) c.transpose.new.self (held c.transposed.result) copied.new.to (held c.transposed.result)
    c.transpose.ensures.rows c.transposed.ensures.act c.transpose-in-ColumnMajor.ensures.rows back order refl part
