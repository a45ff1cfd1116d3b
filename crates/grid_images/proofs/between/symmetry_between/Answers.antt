use Rattle.std.proofs.Common.{◌≡◌, true, refl, arith}
use Rattle.grid_images.specs.Images.{takes, symmetry_at}
use Rattle.grid_images.proofs.OrbitLemmas.{taking_here, taking_none}
use Rattle.grid_images.proofs.between.symmetry_between.Goals as goal

pub returns-then-are_same-clause-first : goal.returns-then-are_same-clause-first
returns-then-are_same-clause-first g c =
    let t = g.V.AsView.rows c.args.board.now in
    let u = g.W.AsView.rows c.args.other.now in
    let passes : takes g.T.PartialEq.eq t u (symmetry_at c.loop-symmetry.symmetry-index) ≡ true = cc in
    taking_here g.T.PartialEq.eq t u c.loop-symmetry.symmetry-index c.loop-symmetry-test.true c.loop-symmetry.invariant passes

pub returns-then-are_same-clause-some : goal.returns-then-are_same-clause-some
returns-then-are_same-clause-some g c =
    let t = g.V.AsView.rows c.args.board.now in
    let u = g.W.AsView.rows c.args.other.now in
    let passes : takes g.T.PartialEq.eq t u (symmetry_at c.loop-symmetry.symmetry-index) ≡ true = cc in
    ((λ _. record { by = symmetry_at c.loop-symmetry.symmetry-index; is_image = passes }), λ _. refl)

pub returns-clause-first : goal.returns-clause-first
returns-clause-first g c =
    taking_none g.T.PartialEq.eq (g.V.AsView.rows c.args.board.now) (g.W.AsView.rows c.args.other.now) (λ j lt. c.loop-symmetry.invariant j (omega arith))
