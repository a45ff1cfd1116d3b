use Rattle.std.proofs.Common.{◌∙◌, sym, subst}
use Rattle.grid_base.proofs.Common.{IsThen, IsUndoneAt}
use Rattle.grid_base.proofs.Lemmas.{then_is, IsThen-product, inverse_is, inverse_left}
use Rattle.grid_base.specs.declared.words.Symmetry.{Symmetry}
use Rattle.grid_base.proofs.laws.inverse_undoes.Goals as goal

undone : (s : Symmetry) → IsUndoneAt s
undone s v h =
    let e = inverse_is s v h in
    (subst (λ x. IsThen s v x) e (IsThen-product s v), subst (λ x. IsThen v s x) (inverse_left s v e) (IsThen-product v s))

pub returns-clause-same_before : goal.returns-clause-same_before
returns-clause-same_before c = then_is _ _ _ c.then.ensures ∙ inverse_is _ _ c.inverse-inverse.ensures

pub returns-clause-same_after : goal.returns-clause-same_after
returns-clause-same_after c = then_is _ _ _ c.then-2.ensures ∙ inverse_left _ _ (inverse_is _ _ c.inverse-inverse.ensures)

pub returns-clause-before : goal.returns-clause-before
returns-clause-before c v h =
    subst (λ x. IsThen c.args.symmetry v x) (sym (then_is _ _ _ c.then.ensures ∙ inverse_is _ _ c.inverse-inverse.ensures)) (undone c.args.symmetry v h).0

pub returns-clause-after : goal.returns-clause-after
returns-clause-after c v h =
    subst (λ x. IsThen v c.args.symmetry x) (sym (then_is _ _ _ c.then-2.ensures ∙ inverse_left _ _ (inverse_is _ _ c.inverse-inverse.ensures))) (undone c.args.symmetry v h).1

pub returns-clause-law : goal.returns-clause-law
returns-clause-law c = undone c.args.symmetry
