use Rattle.grid_images.proofs.LeastLemmas.{least_own, own_alike}
use Rattle.grid_images.proofs.least.canonicalize.Goals as goal

pub returns-clause-own : goal.returns-clause-own
returns-clause-own g c =
    let old = c.args.grid.now in
    let s = c.least_image-symmetry.result in
    let least = c.least_image-symmetry.ensures in
    least_own g.T.Ord.cmp old.rows old.table s least c.apply.new.self.rows c.apply.ensures.rows

pub returns-clause-key : goal.returns-clause-key
returns-clause-key g c = λ form table own.
    let old = c.args.grid.now in
    let s = c.least_image-symmetry.result in
    let least = c.least_image-symmetry.ensures in
    own_alike g.T.Ord.cmp g.met.T.Ord.total g.T.PartialEq.eq g.met.T.Eq.laws g.met.T.Ord.matches_eq old.rows form c.apply.new.self.rows old.table table s least c.apply.ensures.rows own
