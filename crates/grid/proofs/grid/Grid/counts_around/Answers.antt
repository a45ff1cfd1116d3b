use Rattle.std.proofs.Common.{◌∙◌, ap, subst, length}
use Rattle.grid.proofs.Common.{CallableAtRefs}
use Rattle.grid.proofs.Lemmas.{seen_storage, seen_callable, seen_mapped, whole_same}
use Rattle.grid.proofs.grid.Grid.counts_around.Goals as goal

pub map_counts-requires-clause-tests : goal.map_counts-requires-clause-tests
map_counts-requires-clause-tests g c =
    rw c.as_slice-cells.ensures (subst (CallableAtRefs _ _) (seen_storage _ _ _ _ _ c.self.inside.fits c.self.view_is) c.requires.tests)

pub map_counts-requires-clause-calls : goal.map_counts-requires-clause-calls
map_counts-requires-clause-calls g c =
    rw (c.as_slice-cells.ensures, ap (λ v. v.rows) c.self.view_is) (seen_callable _ _ _ _ _ c.self.inside.fits c.self.view_is _ _ c.requires.calls)

pub returns-clause-same : goal.returns-clause-same
returns-clause-same g c =
    whole_same _ _ _ _ _ _ c.self.inside.fits c.self.view_is (ap length c.from_vec.ensures ∙ (c.in_ok-made.ensures.len ∙ ap length c.as_slice-cells.ensures)) _

pub returns-clause-cells : goal.returns-clause-cells
returns-clause-cells g c =
    let len = ap length c.from_vec.ensures ∙ (c.in_ok-made.ensures.len ∙ ap length c.as_slice-cells.ensures) in
    let made = rw (c.as_slice-cells.ensures, ap (λ v. v.rows) c.self.view_is) at c.in_ok-made.ensures.cells in
    seen_mapped _ _ _ _ _ c.self.inside.fits c.self.view_is _ _ _ len (rw c.from_vec.ensures made)
