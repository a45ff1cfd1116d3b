use Rattle.std.proofs.Common.{◌≡◌, ◌↔◌, IsTrue, subst}
use Rattle.grid_base.proofs.Common.{act}
use Rattle.grid_images.specs.Images.{AreAlike, same_table}
use Rattle.grid_images.proofs.LeastLemmas.{least_alike}
use Rattle.grid_images.proofs.laws.least_images_agree.Goals as goal

pub returns-clause-law : goal.returns-clause-law
returns-clause-law g c = λ t u h k s v least least_too.
    least_alike g.T.Ord.cmp g.met.T.Ord.total g.T.PartialEq.eq g.met.T.Eq.laws g.met.T.Ord.matches_eq t u h k s v least least_too

pub returns-clause-alike : goal.returns-clause-alike
returns-clause-alike g c =
    let t = g.V.AsView.rows c.args.board.now in
    let u = g.W.AsView.rows c.args.other.now in
    let told : same_table g.T.PartialEq.eq (act c.least_image.result t) (act c.least_image-2.result u) ≡ c.eq.result = cc in
    subst (λ b. IsTrue b ↔ AreAlike g.T.PartialEq.eq t u) told
    (least_alike g.T.Ord.cmp g.met.T.Ord.total g.T.PartialEq.eq g.met.T.Eq.laws g.met.T.Ord.matches_eq t u (g.met.V.AsView.table c.args.board.now) (g.met.W.AsView.table c.args.other.now) _ _ c.least_image.ensures c.least_image-2.ensures)
