use Rattle.std.proofs.Common.{arith, ap, length}
use Rattle.grid_base.specs.declared.order.Order.TheVariants.{RowMajor}
use Rattle.grid_base.proofs.StorageLemmas.{length-storage}
use Rattle.grid_pairs.proofs.AnswerLemmas.{rows_more}
use Rattle.grid_pairs.proofs.JoinLemmas.{callable_stored, replaced_whole}
use Rattle.grid_pairs.proofs.update.update_rows.Goals as goal

pub update_stored-requires-clause-within : goal.update_stored-requires-clause-within
update_stored-requires-clause-within g c =
    let u = c.args.other.now in
    omega (arith, ap length c.in-Some.ensures, length-storage RowMajor u.rows u.table, c.requires.len)

pub update_stored-requires-clause-calls : goal.update_stored-requires-clause-calls
update_stored-requires-clause-calls g c =
    let u = c.args.other.now in
    rw c.in-Some.ensures (callable_stored u.rows c.args.cells.now u.table (λ h p q. goal.F-pre g h p q) c.args.f.now c.requires.calls)

pub returns-in-Some : goal.returns-in-Some
returns-in-Some g c =
    let u = c.args.other.now in
    replaced_whole u.rows c.args.cells.now u.table _ _ _ (rw c.in-Some.ensures at c.update_stored.ensures)

pub loop-r-preserved : goal.loop-r-preserved
loop-r-preserved g c = rows_more _ _ c.loop-r.r _ _ _ _ c.loop-r.invariant (rw c.view-seen.ensures at c.update_row.ensures)
