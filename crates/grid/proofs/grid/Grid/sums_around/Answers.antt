use Rattle.std.proofs.Common.{◌∙◌, ap, subst, length}
use Rattle.grid.proofs.Common.{CallableAtRefs}
use Rattle.grid.proofs.Lemmas.{seen_storage, seen_callable, seen_mapped, whole_same}
use Rattle.grid.proofs.grid.Grid.sums_around.Goals as goal

pub map_sums-requires-clause-weights : goal.map_sums-requires-clause-weights
map_sums-requires-clause-weights g c =
    rw c.as_slice-cells.ensures (subst (CallableAtRefs _ _) (seen_storage _ _ _ _ _ c.self.inside.fits c.self.view_is) c.requires.weights)

pub map_sums-requires-clause-calls : goal.map_sums-requires-clause-calls
map_sums-requires-clause-calls g c =
    rw (c.as_slice-cells.ensures, ap (λ v. v.rows) c.self.view_is) (seen_callable _ _ _ _ _ c.self.inside.fits c.self.view_is _ _ c.requires.calls)

pub returns-clause-same : goal.returns-clause-same
returns-clause-same g c =
    whole_same _ _ _ _ _ _ c.self.inside.fits c.self.view_is (ap length c.from_vec.ensures ∙ (c.in_ok-made.ensures.len ∙ ap length c.as_slice-cells.ensures)) _

pub returns-clause-cells : goal.returns-clause-cells
returns-clause-cells g c =
    let len = ap length c.from_vec.ensures ∙ (c.in_ok-made.ensures.len ∙ ap length c.as_slice-cells.ensures) in
    let made = rw (c.as_slice-cells.ensures, ap (λ v. v.rows) c.self.view_is) at c.in_ok-made.ensures.cells in
    seen_mapped _ _ _ _ _ c.self.inside.fits c.self.view_is _ _ _ len (rw c.from_vec.ensures made)
