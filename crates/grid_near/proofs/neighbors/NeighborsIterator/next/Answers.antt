use Rattle.std.proofs.Common.{◌+◌, ◌-◌, ◌∙◌, ◌∷◌, ap, sym, slice_index_or, arith, rules}
use Rattle.grid_near.proofs.Common.{cell_by, by_steps, cells_from}
use Rattle.grid_near.proofs.Lemmas.{box_within, inner_item, inner_step, few_left, goes_on}
use Rattle.grid_near.proofs.neighbors.NeighborsIterator.next.Goals as goal

pub bounds-self-inside-place : goal.bounds-self-inside-place
bounds-self-inside-place g c =
    let s = c.self.inside in
    let within = box_within s.table.cells.now s.table.size s.table.start s.table.strides s.at s.connectivity s.edges s.first s.inner s.passed s.tried c.self.invariant c.if-self.true s.passed (omega arith) c.offset-i.result.0 c.offset-i.result.1 c.offset-i.ensures.row c.offset-i.ensures.col in
    omega (arith, c.place_from-place.ensures, within)

pub offset_bounds-self-inside-place : goal.offset_bounds-self-inside-place
offset_bounds-self-inside-place g c = let h = bounds-self-inside-place g c in search rules

pub returns-then-self-clause-steps : goal.returns-then-self-clause-steps
returns-then-self-clause-steps g c =
    let s = c.self.inside in
    let i = c.offset-i.result.0 in
    let j = c.offset-i.result.1 in
    let p = c.place_from-place.result in
    let left = cells_from (cell_by s.table.cells.now s.table.size (by_steps s.table.start s.table.strides)) s.edges s.table.size s.connectivity s.at in
    sym c.self.view_is
    ∙ (ap left (inner_step s.edges s.inner s.passed s.tried c.if-self.true)
    ∙ (inner_item s.table.cells.now s.table.size s.table.start s.table.strides s.at s.connectivity s.edges s.first s.inner s.passed s.tried c.self.invariant c.if-self.true s.passed (omega arith) i j c.offset-i.ensures.row c.offset-i.ensures.col c.index-self-place.result p c.place_from-place.ensures c.index-self-place.is
    ∙ (ap (λ x. ((s.at.0 + i - 1, s.at.1 + j - 1), x) ∷ left (s.passed + 1)) c.index-self-place.is
    ∙ ap (λ k. ((s.at.0 + i - 1, s.at.1 + j - 1), slice_index_or s.table.cells.now p c.index-self-place.result) ∷ left k) (sym (inner_step s.edges s.inner (s.passed + 1) s.tried c.if-self.true)))))

pub returns-then-self-clause-goes : goal.returns-then-self-clause-goes
returns-then-self-clause-goes g c =
    goes_on _ _ _ (few_left _ c.self.inside.edges _ c.self.inside.connectivity c.self.inside.at _ _ c.self.view_is) (returns-then-self-clause-steps g c)

pub returns-in-Open-clause-steps : goal.returns-in-Open-clause-steps
returns-in-Open-clause-steps g c = search rules

pub returns-in-Open-clause-goes : goal.returns-in-Open-clause-goes
returns-in-Open-clause-goes g c =
    goes_on _ _ _ (few_left _ c.self.inside.edges _ c.self.inside.connectivity c.self.inside.at _ _ c.self.view_is) (returns-in-Open-clause-steps g c)

pub returns-in-Joined-clause-steps : goal.returns-in-Joined-clause-steps
returns-in-Joined-clause-steps g c = search rules

pub returns-in-Joined-clause-goes : goal.returns-in-Joined-clause-goes
returns-in-Joined-clause-goes g c =
    goes_on _ _ _ (few_left _ c.self.inside.edges _ c.self.inside.connectivity c.self.inside.at _ _ c.self.view_is) (returns-in-Joined-clause-steps g c)
