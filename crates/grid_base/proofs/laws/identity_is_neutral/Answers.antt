use Rattle.std.proofs.Common.{◌∙◌, subst, rules}
use Rattle.grid_base.proofs.Common.{IsThen}
use Rattle.grid_base.proofs.Lemmas.{then_is, IsThen-product, product_identity, identity_product}
use Rattle.grid_base.specs.declared.words.Symmetry.TheVariants.{Identity}
use Rattle.grid_base.proofs.laws.identity_is_neutral.Goals as goal

pub returns-clause-same_before : goal.returns-clause-same_before
returns-clause-same_before c = then_is _ _ _ c.then.ensures ∙ identity_product c.args.symmetry

pub returns-clause-same_after : goal.returns-clause-same_after
returns-clause-same_after c = then_is _ _ _ c.then-2.ensures ∙ product_identity c.args.symmetry

pub returns-clause-law : goal.returns-clause-law
returns-clause-law c =
    let s = c.args.symmetry in
    (subst (λ v. IsThen Identity s v) (identity_product s) (IsThen-product Identity s), subst (λ v. IsThen s Identity v) (product_identity s) (IsThen-product s Identity))

pub returns-clause-before : goal.returns-clause-before
returns-clause-before = search rules
