use Rattle.std.proofs.Common.{get_or, ◌≡◌, ◌<◌, ◌+◌, arith, refl, sym, ap, ◌∙◌, ◌++◌, ◌∷◌, [], zip, length, take, drop, append_assoc, append-nil, take_all, drop-set-lt}
use Rattle.grid_base.proofs.Common.{take_more_set, drop_all, drop_more, positions_of}
use Rattle.grid_base.proofs.Lemmas.{AllZip-append, callable_cell, length-places, zip_nothing}
use Rattle.grid_base.proofs.flat.all_cells.update_in_turn.Goals as goal

pub loop-cell-init : goal.loop-cell-init
loop-cell-init g c =
    record {
      done = [];
      split = ap (λ l. zip l c.args.cells.now) c.new-left.ensures;
      positions_left = omega (arith, ap length c.new-left.ensures, length-places c.args.layout.order c.args.layout.rows c.args.layout.cols c.args.layout.size, c.requires.0);
      answers = tt;
    }

pub loop-cell-preserved : goal.loop-cell-preserved
loop-cell-preserved g c =
    let i = c.loop-cell.invariant in
    let lt : c.loop-cell.cell-index < length c.loop-cell.cells = omega (arith, c.loop-cell-test.true, c.loop-cell.auto.cells) in
    let s = c.pass-at.ensures in
    let cut = drop_more c.loop-cell.cells c.loop-cell.cell-index c.cell-item.result lt ∙ ap (λ z. z ∷ drop (c.loop-cell.cell-index + 1) c.loop-cell.cells) (sym c.cell-item.is) in
    record {
      done = i.done ++ (c.pass-at.result, c.cell-item.result) ∷ [];
      split = rw (drop-set-lt (c.loop-cell.cell-index + 1) c.loop-cell.cells c.loop-cell.cell-index c.f.result (omega arith), append_assoc) (rw (s, cut) at i.split);
      positions_left = omega (arith, i.positions_left, ap length s);
      answers = rw (take_more_set c.loop-cell.cells c.loop-cell.cell-index c.f.result lt) (AllZip-append _ _ _ (c.pass-at.result, c.cell-item.result) c.f.result i.answers (record { shown = _; shows = sym c.cell-item.is; says = c.f.ensures }));
    }

pub pass-at-requires : goal.pass-at-requires
pass-at-requires g c =
    let i = c.loop-cell.invariant in
    omega (arith, c.loop-cell-test.true, c.loop-cell.auto.cells, i.positions_left)

pub f-requires : goal.f-requires
f-requires g c =
    let i = c.loop-cell.invariant in
    let s = c.pass-at.ensures in
    let cells = c.loop-cell.cells in
    let k = c.loop-cell.cell-index in
    let lt : k < length cells = omega (arith, c.loop-cell-test.true, c.loop-cell.auto.cells) in
    let cut : drop k cells ≡ get_or cells k c.cell-item.result ∷ drop (k + 1) cells =
    drop_more cells k c.cell-item.result lt in
    let all = zip (positions_of c.args.layout) c.args.cells.now in
    callable_cell _ c.args.f.now all i.done _ c.pass-at.result _ c.requires.1 (rw (s, cut) at i.split)

pub returns : goal.returns
returns g c =
    let i = c.loop-cell.invariant in
    let cells = c.loop-cell.cells in
    let k = c.loop-cell.cell-index in
    let all : i.done ≡ zip (positions_of c.args.layout) c.args.cells.now =
    rw (drop_all k cells (omega (arith, c.loop-cell-test.false, c.loop-cell.auto.cells)), zip_nothing c.loop-cell.left [] refl, append-nil) at i.split in
    let whole : take k cells ≡ cells = take_all k cells (omega (arith, c.loop-cell-test.false, c.loop-cell.auto.cells, c.loop-cell.auto.cell-index-end)) in
    record { places = rw (← all) (rw whole at i.answers) }
