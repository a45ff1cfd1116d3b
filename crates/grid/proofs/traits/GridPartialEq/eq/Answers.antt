use Rattle.std.proofs.Common.{rules, ◌≡◌, sym, ap, ◌∙◌, arith}
use Rattle.grid.proofs.Common.{pointwise, row_count, col_count, storage}
use Rattle.grid.proofs.Lemmas.{same_stored}
use Rattle.grid.proofs.traits.GridPartialEq.eq.Goals as goal

pub returns-then-eq : goal.returns-then-eq
returns-then-eq g c =
    let E = g.T.PartialEq.eq in
    let a = c.args.self.now in
    let b = c.args.other.now in
    let order : a.order ≡ b.order = search rules in
    let rows : row_count a.rows ≡ row_count b.rows = omega arith in
    let cols : col_count a.rows ≡ col_count b.rows = omega arith in
    c.eq-then-eq.ensures
    ∙ ((λ k. pointwise E (c.flatten.ensures k) ((c.flatten-then-eq.ensures ∙ ap (λ o. storage o b.rows) (sym order)) k))
    ∙ same_stored E a.order a.rows b.rows a.table b.table rows cols)

pub returns : goal.returns
returns = search rules
