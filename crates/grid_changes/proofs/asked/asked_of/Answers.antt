use Rattle.std.proofs.Common.{Some, ap, ◌∙◌, inl, inr, length}
use Rattle.grid.proofs.Common.{none_by_storage}
use Rattle.grid_changes.proofs.AskedLemmas.{size_due, get_due, set_due, set_refused, swap_due, swap_refused, fill_due, clear_due, apply_due}
use Rattle.grid_changes.proofs.asked.asked_of.Goals.{else-contains-2-via-then-contains-2+else-contains-3, else-contains-2-via-else-contains-2}
use Rattle.grid_changes.proofs.asked.asked_of.Goals as goal

pub returns-in-Size-clause-asked : goal.returns-in-Size-clause-asked
returns-in-Size-clause-asked g c = rw (← c.in-Size.ensures) (size_due _ _ _ _ _ c.size-rows.ensures.rows c.size-rows.ensures.cols)

pub returns-in_ok-copy-in-Some-clause-asked : goal.returns-in_ok-copy-in-Some-clause-asked
returns-in_ok-copy-in-Some-clause-asked g c =
    rw (← c.in-Get.ensures)
    (get_due _ _ _ c.in-Get.row c.in-Get.col _
    (λ same. ap Some (same _ _ c.in_ok-copy-in-Some.ensures.cases) ∙ c.in-Some.ensures.cell))

pub returns-in-None-clause-asked : goal.returns-in-None-clause-asked
returns-in-None-clause-asked g c = rw (← c.in-Get.ensures) (get_due _ _ _ c.in-Get.row c.in-Get.col _ (λ same. c.in-None.ensures.cell))

pub returns-then-contains-clause-asked : goal.returns-then-contains-clause-asked
returns-then-contains-clause-asked g c =
    let within = c.contains.ensures.0 c.if-contains.true in
    (within, rw (← c.in-Set.ensures) (set_due _ _ _ c.in-Set.row c.in-Set.col c.in-Set.value within))

pub returns-else-contains-clause-asked : goal.returns-else-contains-clause-asked
returns-else-contains-clause-asked g c =
    rw (← c.in-Set.ensures) (set_refused _ _ _ c.in-Set.row c.in-Set.col c.in-Set.value (λ within. cc (c.contains.ensures.1 within, c.if-contains.false)))

pub returns-then-contains-3-clause-asked : goal.returns-then-contains-3-clause-asked
returns-then-contains-3-clause-asked g c =
    let one = c.contains-in-Swap.ensures.0 c.if-contains-2.true in
    let other = c.contains-then-contains-2.ensures.0 c.if-contains-3.true in
    ((one, other), rw (← c.in-Swap.ensures) (swap_due _ _ _ c.in-Swap.a c.in-Swap.b one other))

pub returns-else-contains-2-clause-asked : goal.returns-else-contains-2-clause-asked
returns-else-contains-2-clause-asked g c =
    rw (← c.in-Swap.ensures)
    (swap_refused _ _ _ c.in-Swap.a c.in-Swap.b
    (elim c.else-contains-2.branch [
      | else-contains-2-via-then-contains-2+else-contains-3 w ↦ inr (λ within. cc (w.contains-then-contains-2.ensures.1 within, w.if-contains-3.false))
      | else-contains-2-via-else-contains-2 w ↦ inl (λ within. cc (c.contains-in-Swap.ensures.1 within, w.if-contains-2.false))
    ]))

pub returns-in_ok-filled-in-Fill-clause-asked : goal.returns-in_ok-filled-in-Fill-clause-asked
returns-in_ok-filled-in-Fill-clause-asked g c =
    (tt, rw (← c.in-Fill.ensures) (fill_due _ _ _ _ c.in-Fill.value c.in_ok-filled-in-Fill.ensures.rows c.in_ok-filled-in-Fill.ensures.order))

pub returns-in_ok-alloc-in-Clear-clause-asked : goal.returns-in_ok-alloc-in-Clear-clause-asked
returns-in_ok-alloc-in-Clear-clause-asked g c =
    let empty = c.from_vec_with_order-empty in (
      tt,
      rw (← c.in-Clear.ensures)
          (clear_due _ _ _ _ (none_by_storage _ empty.result.rows empty.result.table (ap length (empty.ensures.storage ∙ c.new.ensures.items))) (empty.ensures.order ∙ c.order.ensures)),
    )

pub returns-in-Apply-clause-asked : goal.returns-in-Apply-clause-asked
returns-in-Apply-clause-asked g c = (tt, rw (← c.in-Apply.ensures) (apply_due _ _ _ c.in-Apply.symmetry))
