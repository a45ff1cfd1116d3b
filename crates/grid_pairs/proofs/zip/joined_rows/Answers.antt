use Rattle.std.proofs.Common.{◌*◌, ◌∙◌, sym, arith, ap, length}
use Rattle.grid_base.specs.declared.order.Order.TheVariants.{RowMajor}
use Rattle.grid_base.proofs.StorageLemmas.{length-storage}
use Rattle.grid_pairs.proofs.AnswerLemmas.{joined_more}
use Rattle.grid_pairs.proofs.JoinLemmas.{whole_even, callable_whole, joined_whole}
use Rattle.grid_pairs.proofs.zip.joined_rows.Goals as goal
use Rattle.grid_pairs.proofs.zip.joined_rows.Goals.{in-1, in-2, in-3, in_default-cols}

pub push_stored-requires-clause-len : goal.push_stored-requires-clause-len
push_stored-requires-clause-len g c =
    let t = c.args.board.now in
    let u = c.args.other.now in
    ap length c.in-Some-Some.ensures' ∙ (whole_even t.rows u.rows t.table u.table c.requires.rows c.requires.cols ∙ sym (ap length c.in-Some-Some.ensures))

pub push_stored-requires-clause-calls : goal.push_stored-requires-clause-calls
push_stored-requires-clause-calls g c =
    let t = c.args.board.now in
    let u = c.args.other.now in
    rw (c.in-Some-Some.ensures, c.in-Some-Some.ensures') (callable_whole t.rows u.rows t.table u.table c.requires.rows c.requires.cols (λ h p q. goal.F-pre g h p q) c.args.f.now c.requires.calls)

pub push_stored-requires-clause-room : goal.push_stored-requires-clause-room
push_stored-requires-clause-room g c =
    let t = c.args.board.now in
    let rows = ap (λ x. x * c.size-rows.result.1) c.size-rows.ensures.rows in
    let cols = ap (λ x. length t.rows * x) c.size-rows.ensures.cols in
    omega (arith, ap length c.in-Some-Some.ensures, length-storage RowMajor t.rows t.table, rows, cols, c.in_ok-cells.ensures.exact, ap length c.in_ok-cells.ensures.items)

pub returns-in-Some-Some : goal.returns-in-Some-Some
returns-in-Some-Some g c =
    let t = c.args.board.now in
    let u = c.args.other.now in
    joined_whole t.rows u.rows t.table u.table c.requires.rows c.requires.cols _ _ _ _ (ap length c.in_ok-cells.ensures.items) (rw (c.in-Some-Some.ensures, c.in-Some-Some.ensures') at c.push_stored.ensures.items)

pub loop-r-preserved : goal.loop-r-preserved
loop-r-preserved g c =
    let i = c.loop-r.invariant in
    elim c.match-cols.branch [
      | in-1 w ↦ rw w.cells-is (record { room = omega (arith, i.room, w.push_seen.ensures.room); joined = joined_more _ _ c.loop-r.r _ _ _ _ i.joined w.push_seen.ensures.items })
      | in-2 w ↦ rw w.cells-is (record { room = omega (arith, i.room, w.push_seen-in-2.ensures.room); joined = joined_more _ _ c.loop-r.r _ _ _ _ i.joined w.push_seen-in-2.ensures.items })
      | in-3 w ↦ rw w.cells-is (record { room = omega (arith, i.room, w.push_seen-in-3.ensures.room); joined = joined_more _ _ c.loop-r.r _ _ _ _ i.joined w.push_seen-in-3.ensures.items })
      | in_default-cols w ↦ rw w.cells-is (record { room = omega (arith, i.room, w.push_row.ensures.room); joined = joined_more _ _ c.loop-r.r _ _ _ _ i.joined w.push_row.ensures.items })
    ]
