use Rattle.std.proofs.Common.{◌≡◌, ◌∙◌, ap, sym, map, arith, map-id}
use Rattle.grid.proofs.Common.{YieldsList-from_vec, YieldsList-end, concat_rows}
use Rattle.grid.proofs.convert.join_rows.Goals as goal

pub returns : goal.returns
returns g c =
    let given = c.into_iter-row-iterator.ensures.into_iter_gives in
    let road = YieldsList-from_vec {s = c.into_iter-row-iterator.result} c.args.rows.items given.0 (omega (arith, given.1)) in
    let end = YieldsList-end road c.loop-row.yielded c.loop-row.row-iterator c.loop-row.yielded_by c.next.result c.next.new.self c.in-None.is c.next.ensures.steps in
    let whole : c.loop-row.yielded ≡ c.args.rows.items = sym {b = c.loop-row.yielded} (map-id c.loop-row.yielded) ∙ end.0 in
    c.loop-row.invariant ∙ ap (λ rows. concat_rows (map (λ row. row.items) rows)) whole
