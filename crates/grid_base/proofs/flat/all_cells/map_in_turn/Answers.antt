use Rattle.std.proofs.Common.{◌≡◌, ◌<◌, ◌+◌, arith, refl, sym, ap, ◌∙◌, ◌++◌, ◌∷◌, [], zip, length, drop, append_assoc, append-nil}
use Rattle.grid_base.proofs.Common.{drop_all, drop_more, positions_of}
use Rattle.grid_base.proofs.Lemmas.{AllZip-append, callable_cell, length-places, zip_nothing}
use Rattle.grid_base.proofs.flat.all_cells.map_in_turn.Goals as goal

pub loop-cell-init : goal.loop-cell-init
loop-cell-init g c =
    record {
      done = [];
      split = ap (λ l. zip l c.args.cells.now) c.new-left.ensures;
      positions_left = omega (arith, ap length c.new-left.ensures, length-places c.args.layout.order c.args.layout.rows c.args.layout.cols c.args.layout.size, c.requires.table.0);
      count = omega (arith, ap length c.requires.room.0);
      room = c.requires.room.1;
      answers = rw c.requires.room.0 tt;
    }

pub loop-cell-preserved : goal.loop-cell-preserved
loop-cell-preserved g c =
    let i = c.loop-cell.invariant in
    let cells = c.args.cells.now in
    let lt : c.loop-cell.cell-index < length cells = omega arith in
    let s = c.pass-at.ensures in
    let p = c.push_reserved.ensures in
    let cut = drop_more cells c.loop-cell.cell-index c.cell-item.result lt ∙ ap (λ z. z ∷ drop (c.loop-cell.cell-index + 1) cells) (sym c.cell-item.is) in
    record {
      done = i.done ++ (c.pass-at.result, c.cell-item.result) ∷ [];
      split = rw append_assoc (rw (s, cut) at i.split);
      positions_left = omega (arith, i.positions_left, ap length s);
      count = grind (arith, p.len, i.count);
      room = grind (arith, p.capacity, i.room);
      answers = rw p.items (AllZip-append _ _ _ (c.pass-at.result, c.cell-item.result) c.f.result i.answers (record { shown = _; shows = refl; says = c.f.ensures }));
    }

pub pass-at-requires : goal.pass-at-requires
pass-at-requires g c = omega (arith, c.loop-cell.invariant.positions_left)

pub f-requires : goal.f-requires
f-requires g c =
    let i = c.loop-cell.invariant in
    let cells = c.args.cells.now in
    let lt : c.loop-cell.cell-index < length cells = omega arith in
    let s = c.pass-at.ensures in
    let cut = drop_more cells c.loop-cell.cell-index c.cell-item.result lt ∙ ap (λ z. z ∷ drop (c.loop-cell.cell-index + 1) cells) (sym c.cell-item.is) in
    let all = zip (positions_of c.args.layout) cells in
    callable_cell _ c.args.f.now all i.done _ c.pass-at.result _ c.requires.table.1 (rw (s, cut) at i.split)

pub returns-clause-cells : goal.returns-clause-cells
returns-clause-cells g c =
    let i = c.loop-cell.invariant in
    let cells = c.args.cells.now in
    let k = c.loop-cell.cell-index in
    let all : i.done ≡ zip (positions_of c.args.layout) cells =
    rw (drop_all k cells (omega arith), zip_nothing c.loop-cell.left [] refl, append-nil) at i.split in
    record { places = rw (← all) i.answers }
