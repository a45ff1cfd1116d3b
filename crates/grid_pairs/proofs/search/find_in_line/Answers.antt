use Rattle.std.proofs.Common.{◌<◌, arith, ap, length, refl, slice_get, sym, ◌∙◌}
use Rattle.std.proofs.lemmas.Option.{slice_get_read}
use Rattle.grid_pairs.proofs.FindLemmas.{tall_of}
use Rattle.grid_pairs.proofs.search.find_in_line.Goals as goal

pub stands_at-requires-clause-first : goal.stands_at-requires-clause-first
stands_at-requires-clause-first g c =
    let line = c.args.line.now in
    let tall = tall_of c.args.pattern.now.rows c.requires.some in
    let wide = c.args.board.now.table.even c.args.r (omega (arith, c.requires.rows_in, tall)) in
    let below : c.loop-col.col < length line = omega (arith, ap length c.requires.line, wide, c.requires.cols_in, c.requires.some, c.loop-col-test.true, c.cols.ensures, c.cols-2.ensures) in
    ap (λ l. slice_get l c.loop-col.col) (sym c.requires.line) ∙ slice_get_read line _ c.loop-col.col _ refl below c.index-line-col.is
