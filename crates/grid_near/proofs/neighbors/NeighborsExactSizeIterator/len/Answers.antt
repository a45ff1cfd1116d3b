use Rattle.std.proofs.Common.{◌≡◌, ◌∙◌, sym, ap, length, cond, arith}
use Rattle.std.proofs.Math.Nat.{min-eq_left}
use Rattle.grid_near.proofs.Common.{positions_from, by_steps}
use Rattle.grid_near.proofs.Lemmas.{open_left, strided_there, few_left, joined_left}
use Rattle.grid_near.proofs.neighbors.NeighborsExactSizeIterator.len.Goals as goal
use Rattle.grid_near.proofs.neighbors.NeighborsExactSizeIterator.len.Goals.{then-self, else-self}

pub returns-after-self-clause-exact : goal.returns-after-self-clause-exact
returns-after-self-clause-exact g c =
    let s = c.self.inside in
    let from : c.if-self.from ≡ cond s.inner s.passed s.tried = elim c.if-self.branch [
      | then-self w ↦ w.from-is ∙ ap (λ b. cond b s.passed s.tried) (sym w.if-self.true)
      | else-self w ↦ w.from-is ∙ ap (λ b. cond b s.passed s.tried) (sym w.if-self.false)
    ] in
    c.count_from.ensures
    ∙ (ap (λ k. length (positions_from s.table.size s.connectivity s.at k)) from
    ∙ (sym (open_left s.table.cells.now s.table.size (by_steps s.table.start s.table.strides) c.self.invariant.holds s.edges c.in-Open.is s.connectivity s.at s.inner s.passed s.tried)
    ∙ ap length c.self.view_is))

pub returns-after-self-clause-value : goal.returns-after-self-clause-value
returns-after-self-clause-value g c = returns-after-self-clause-exact g c ∙ sym (min-eq_left (few_left _ c.self.inside.edges _ c.self.inside.connectivity c.self.inside.at _ _ c.self.view_is))

pub returns-in-Joined-clause-exact : goal.returns-in-Joined-clause-exact
returns-in-Joined-clause-exact g c =
    let s = c.self.inside in
    let i = c.self.invariant in
    let left = joined_left _ s.table.size s.at (strided_there s.table.cells.now s.table.size (by_steps s.table.start s.table.strides) i.holds) s.connectivity s.edges c.in-Joined.is s.inner s.passed s.tried (i.row_in c.in-Joined.is) (i.col_in c.in-Joined.is) in
    omega (arith, left, ap length c.self.view_is)

pub returns-in-Joined-clause-value : goal.returns-in-Joined-clause-value
returns-in-Joined-clause-value g c = returns-in-Joined-clause-exact g c ∙ sym (min-eq_left (few_left _ c.self.inside.edges _ c.self.inside.connectivity c.self.inside.at _ _ c.self.view_is))
