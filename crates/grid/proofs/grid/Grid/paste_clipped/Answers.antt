use Rattle.std.proofs.Common.{◌≡◌, ◌∙◌, arith, to_z, of_z, w64}
use Rattle.grid.proofs.Common.{ints, to_z-of_z, on_ok_weaker}
use Rattle.grid.proofs.Lemmas.{clipped_as, clipped_within, pasted_clipped}
use Rattle.grid.proofs.grid.Grid.paste_clipped.Goals as goal

pub paste-requires-clause-rows_in : goal.paste-requires-clause-rows_in
paste-requires-clause-rows_in g c =
    let view = c.args.view.now in
    let row : to_z w64 (of_z w64 c.args.at.0) ≡ c.args.at.0 = search (arith, ints, to_z-of_z) in
    let rows = clipped_as _ _ _ _ _ _ _ _ _ row c.size-view_rows.ensures.rows c.size-rows.ensures.rows c.clipped-skipped_rows.ensures in
    let col : to_z w64 (of_z w64 c.args.at.1) ≡ c.args.at.1 = search (arith, ints, to_z-of_z) in
    let cols = clipped_as _ _ _ _ _ _ _ _ _ col c.size-view_rows.ensures.cols c.size-rows.ensures.cols c.clipped-skipped_cols.ensures in
    let part = c.part-part.ensures in
    let within = clipped_within c.args.at view.rows c.args.self.now.rows c.part-part.result.rows view.table c.args.self.now.table c.part-part.result.table _ _ _ rows cols part.rows part.none in
    omega (arith, within.0, rows.within)

pub paste-requires-clause-cols_in : goal.paste-requires-clause-cols_in
paste-requires-clause-cols_in g c =
    let view = c.args.view.now in
    let row : to_z w64 (of_z w64 c.args.at.0) ≡ c.args.at.0 = search (arith, ints, to_z-of_z) in
    let rows = clipped_as _ _ _ _ _ _ _ _ _ row c.size-view_rows.ensures.rows c.size-rows.ensures.rows c.clipped-skipped_rows.ensures in
    let col : to_z w64 (of_z w64 c.args.at.1) ≡ c.args.at.1 = search (arith, ints, to_z-of_z) in
    let cols = clipped_as _ _ _ _ _ _ _ _ _ col c.size-view_rows.ensures.cols c.size-rows.ensures.cols c.clipped-skipped_cols.ensures in
    let part = c.part-part.ensures in
    let within = clipped_within c.args.at view.rows c.args.self.now.rows c.part-part.result.rows view.table c.args.self.now.table c.part-part.result.table _ _ _ rows cols part.rows part.none in
    omega (arith, within.1, cols.within)

pub returns-clause-rows : goal.returns-clause-rows
returns-clause-rows g c =
    let view = c.args.view.now in
    let row : to_z w64 (of_z w64 c.args.at.0) ≡ c.args.at.0 = search (arith, ints, to_z-of_z) in
    let rows = clipped_as _ _ _ _ _ _ _ _ _ row c.size-view_rows.ensures.rows c.size-rows.ensures.rows c.clipped-skipped_rows.ensures in
    let col : to_z w64 (of_z w64 c.args.at.1) ≡ c.args.at.1 = search (arith, ints, to_z-of_z) in
    let cols = clipped_as _ _ _ _ _ _ _ _ _ col c.size-view_rows.ensures.cols c.size-rows.ensures.cols c.clipped-skipped_cols.ensures in
    let part = c.part-part.ensures in
    on_ok_weaker c.paste.result
    (λ is. is ∙ pasted_clipped c.args.at view.rows c.args.self.now.rows c.part-part.result.rows view.table c.args.self.now.table c.part-part.result.table _ _ _ rows cols part.rows part.none)
    c.paste.ensures.rows
