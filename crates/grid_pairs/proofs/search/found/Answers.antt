use Rattle.std.proofs.Common.{◌≡◌, arith, subst, ⊎_elim}
use Rattle.grid_base.proofs.Common.{cases_lt}
use Rattle.grid_pairs.specs.Found.{StandsIn}
use Rattle.grid_pairs.proofs.FindLemmas.{empty_first}
use Rattle.grid_pairs.proofs.search.found.Goals as goal

pub returns-then-is_empty-clause-first : goal.returns-then-is_empty-clause-first
returns-then-is_empty-clause-first g c = empty_first _ _ _ (c.is_empty.ensures.0 c.if-is_empty.true)

pub loop-row-preserved : goal.loop-row-preserved
loop-row-preserved g c = λ r k lt s. ⊎_elim
    (λ low. c.loop-row.invariant r k low s)
    (λ past.
    let e : r ≡ c.loop-row.row = omega arith in
    c.in_default.ensures k (subst (λ x. StandsIn g.T.PartialEq.eq c.args.board.now.rows c.args.pattern.now.rows x k) e s))
    (cases_lt r c.loop-row.row)
