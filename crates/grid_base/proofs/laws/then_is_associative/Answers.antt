use Rattle.std.proofs.Common.{◌≡◌, ◌∙◌, sym, ap, subst}
use Rattle.grid_base.proofs.Common.{IsThen}
use Rattle.grid_base.proofs.Lemmas.{product, product_assoc, then_is}
use Rattle.grid_base.proofs.laws.then_is_associative.Goals as goal

pub returns-clause-left : goal.returns-clause-left
returns-clause-left c a h =
    subst (λ x. IsThen x c.args.third c.then-2.result) (then_is _ _ _ c.then.ensures ∙ sym (then_is _ _ _ h)) c.then-2.ensures

pub returns-clause-right : goal.returns-clause-right
returns-clause-right c b h =
    subst (λ x. IsThen c.args.first x c.then-4.result) (then_is _ _ _ c.then-3.ensures ∙ sym (then_is _ _ _ h)) c.then-4.ensures

pub returns-clause-same : goal.returns-clause-same
returns-clause-same c =
    let left : c.then-2.result ≡ product (product c.args.first c.args.second) c.args.third =
    then_is _ _ _ c.then-2.ensures ∙ ap (λ s. product s c.args.third) (then_is _ _ _ c.then.ensures) in
    let right : c.then-4.result ≡ product c.args.first (product c.args.second c.args.third) =
    then_is _ _ _ c.then-4.ensures ∙ ap (product c.args.first) (then_is _ _ _ c.then-3.ensures) in
    left ∙ (product_assoc c.args.first c.args.second c.args.third ∙ sym right)

pub returns-clause-law : goal.returns-clause-law
returns-clause-law c a b v w first second third last =
    let left : v ≡ product (product c.args.first c.args.second) c.args.third =
    then_is a c.args.third v second ∙ ap (λ s. product s c.args.third) (then_is c.args.first c.args.second a first) in
    let right : w ≡ product c.args.first (product c.args.second c.args.third) =
    then_is c.args.first b w last ∙ ap (product c.args.first) (then_is c.args.second c.args.third b third) in
    left ∙ (product_assoc c.args.first c.args.second c.args.third ∙ sym right)
