use Rattle.std.proofs.Common.{◌≡◌, ◌<◌, ◌∙◌, ap, arith}
use Rattle.grid_near.proofs.Common.{step_count, cells_from, by_steps}
use Rattle.grid_near.proofs.Lemmas.{steps_shown, start_step, strided_there, cells_in_order, positions_in_order, few_from, not_done, none_done, joined_left}
use Rattle.grid_near.specs.declared.board.Edges.TheVariants.{Joined}
use Rattle.grid_near.proofs.neighbors.neighbors_in.Goals as goal
use Rattle.grid_near.proofs.neighbors.neighbors_in.Goals.{then-inner, else-inner}

pub invariant_of-result : goal.invariant_of-result
invariant_of-result g c =
    let a = c.args in
    let size = a.table.size in
    let within : a.edges ≡ Joined → c.done_at_start-passed.result < step_count a.connectivity → (a.at.0 < size.0) × (a.at.1 < size.1) =
    λ e lt. not_done size a.connectivity a.at a.edges e (rw c.done_at_start-passed.ensures at lt) in
    record {
      holds = c.requires.holds;
      inside = c.is_inner-inner.ensures.0;
      first_is = λ e. elim c.if-inner.branch [ then-inner w ↦ w.first-is ∙ w.place_from-first.ensures | else-inner w ↦ absurd (cc (w.if-inner.false, e)) ];
      behind = λ e f. omega arith;
      row_in = λ e lt. (within e lt).0;
      col_in = λ e lt. (within e lt).1;
    }

pub returns-clause-gives : goal.returns-clause-gives
returns-clause-gives g c =
    let a = c.args in (
      ap (cells_from _ a.edges _ a.connectivity a.at) (start_step a.edges c.is_inner-inner.result c.done_at_start-passed.result)
          ∙ steps_shown a.table.cells.now a.table.size a.table.start a.table.strides c.requires.size c.requires.holds a.edges a.connectivity a.at c.done_at_start-passed.result c.done_at_start-passed.ensures,
      cells_in_order _,
      positions_in_order _,
    )

pub returns-clause-count : goal.returns-clause-count
returns-clause-count g c = λ e lr lc.
    let a = c.args in
    let size = a.table.size in
    let none = c.done_at_start-passed.ensures ∙ none_done size a.connectivity a.at a.edges lr lc in
    joined_left _ size a.at (strided_there a.table.cells.now size (by_steps a.table.start a.table.strides) c.requires.holds) a.connectivity a.edges e _ _ _ (λ _. lr) (λ _. lc) ∙ omega arith

pub returns-clause-at_most : goal.returns-clause-at_most
returns-clause-at_most g c = few_from _ c.args.edges _ c.args.connectivity c.args.at _
