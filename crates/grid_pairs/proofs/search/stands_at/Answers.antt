use Rattle.grid_pairs.proofs.FindLemmas.{first_same}
use Rattle.grid_pairs.proofs.search.stands_at.Goals as goal

pub returns-else-eq : goal.returns-else-eq
returns-else-eq g c = (
  λ e. absurd (cc),
  λ s.
      let yes = first_same g.T.PartialEq.eq _ _ c.args.r c.args.col _ _ c.args.board.now.table c.requires.some s c.requires.first c.get_unchecked.ensures in
      let not = c.if-eq.ensures in
      absurd (cc),
)
