use Rattle.std.proofs.Common.{◌<◌, ◌++◌, length, flat_map, map, ◌∙◌, ap, arith, length-append}
use Rattle.grid_base.proofs.Common.{col_count, items_of_each, last_of, before_last}
use Rattle.grid_base.proofs.Lemmas.{left_over, column_left, column_length, columns_given, columns_done, lines_done, none_left, rows-vecs}
use Rattle.grid_base.proofs.flat.gather.append_across.Goals as goal

pub loop-preserved : goal.loop-preserved
loop-preserved g c =
    let t = items_of_each c.args.lines.now in
    let lt : c.loop.counter < col_count t = omega (arith, c.requires.width) in
    let given = c.append_lasts.ensures.cells ∙ ap (λ u. c.loop.cells.items ++ flat_map last_of u) c.loop.invariant.lines in
    let len = ap length given ∙ length-append c.loop.cells.items (flat_map last_of (left_over c.loop.counter t)) in
    record {
      lines = c.append_lasts.ensures.lines ∙ (ap (map before_last) c.loop.invariant.lines ∙ column_left t c.requires.table c.loop.counter lt);
      cells = columns_given t c.requires.table c.loop.counter _ _ _ lt c.loop.invariant.cells given;
      room =
          grind (arith, c.loop.invariant.room, len, column_length t c.requires.table c.loop.counter lt, rows-vecs c.args.lines.now, c.append_lasts.ensures.room, c.append_lasts.new.cells.ok.0, c.loop.cells.ok.0);
    }

pub returns-clause-cells : goal.returns-clause-cells
returns-clause-cells g c =
    columns_done (items_of_each c.args.lines.now) c.requires.table c.loop.counter _ _ (omega (arith, c.requires.width)) c.loop.invariant.cells

pub returns-clause-moved : goal.returns-clause-moved
returns-clause-moved g c =
    none_left _ _ (c.loop.invariant.lines ∙ lines_done (items_of_each c.args.lines.now) c.requires.table c.loop.counter (omega (arith, c.requires.width)))
