use Rattle.std.proofs.Common.{ℕ, ◌<◌, ◌↔◌, IsTrue, ◌∙◌, not, sym, ap, subst, length, ◌*◌, arith}
use Rattle.grid_base.specs.declared.words.Symmetry.TheVariants.{Identity}
use Rattle.grid_images.specs.Images.{DiffersBy, GivesEachImageOnce, first_images, fixing, is_first, symmetry_at}
use Rattle.grid_images.proofs.OrbitLemmas.{all_first, has_room, each_once, orbit_count, kept_more, left_out, all_kept, first_told, differs_told}
use Rattle.grid_images.proofs.orbit.images.Goals as goal
use Rattle.grid_images.proofs.orbit.images.Goals.{then-not-comes_before, else-not-comes_before}

pub push-requires : goal.push-requires
push-requires g c =
    has_room (is_first g.T.PartialEq.eq (g.V.AsView.rows c.args.board.now)) c.loop-i.i c.loop-i-test.true c.loop-i.found c.loop-i.invariant

pub loop-i-preserved : goal.loop-i-preserved
loop-i-preserved g c =
    let t = g.V.AsView.rows c.args.board.now in
    let p = is_first g.T.PartialEq.eq t in
    let i = c.loop-i.i in
    let small : i < 8 = c.loop-i-test.true in
    let is : IsTrue c.comes_before.result ↔ ((k : ℕ) × (k < i) × DiffersBy (fixing g.T.PartialEq.eq t) (symmetry_at i) (symmetry_at k)) =
    subst (λ ss. IsTrue c.comes_before.result ↔ ((k : ℕ) × (k < i) × DiffersBy ss (symmetry_at i) (symmetry_at k))) c.symmetries-fixing.ensures.members c.comes_before.ensures in
    let told = first_told g.T.PartialEq.eq t i c.comes_before.result small (differs_told g.met.T.Eq.laws t (g.met.V.AsView.table c.args.board.now) i c.comes_before.result small is) in
    elim c.if-not-comes_before.branch [
      | then-not-comes_before w ↦ w.found-is ∙ kept_more p i small c.loop-i.found w.push.new.self c.loop-i.invariant (told ∙ ap not w.if-not-comes_before.true) w.push.ensures
      | else-not-comes_before w ↦ w.found-is ∙ left_out p i small c.loop-i.found c.loop-i.invariant (told ∙ ap not w.if-not-comes_before.false)
    ]

pub returns-then-len-eq1-clause-members : goal.returns-then-len-eq1-clause-members
returns-then-len-eq1-clause-members g c =
    let one = ap length (sym c.symmetries-fixing.ensures.members) ∙ (sym c.len.ensures.len ∙ c.if-len-eq1.true) in
    c.all.ensures ∙ all_first g.met.T.Eq.laws (g.V.AsView.rows c.args.board.now) (g.met.V.AsView.table c.args.board.now) one

pub returns-then-len-eq1-clause-each : goal.returns-then-len-eq1-clause-each
returns-then-len-eq1-clause-each g c =
    subst (GivesEachImageOnce g.T.PartialEq.eq (g.V.AsView.rows c.args.board.now)) (sym (returns-then-len-eq1-clause-members g c)) (each_once g.met.T.Eq.laws (g.V.AsView.rows c.args.board.now) (g.met.V.AsView.table c.args.board.now))

pub returns-clause-members : goal.returns-clause-members
unfolding first_images
returns-clause-members g c =
    all_kept (is_first g.T.PartialEq.eq (g.V.AsView.rows c.args.board.now)) c.loop-i.i (omega arith) c.loop-i.found c.loop-i.invariant

pub returns-clause-each : goal.returns-clause-each
returns-clause-each g c =
    subst (GivesEachImageOnce g.T.PartialEq.eq (g.V.AsView.rows c.args.board.now)) (sym (returns-clause-members g c)) (each_once g.met.T.Eq.laws (g.V.AsView.rows c.args.board.now) (g.met.V.AsView.table c.args.board.now))

pub returns-clause-count : goal.returns-clause-count
returns-clause-count g c =
    ap (λ ss. length ss * length (fixing g.T.PartialEq.eq (g.V.AsView.rows c.args.board.now))) (returns-clause-members g c) ∙ orbit_count g.met.T.Eq.laws (g.V.AsView.rows c.args.board.now) (g.met.V.AsView.table c.args.board.now)

pub returns-clause-some : goal.returns-clause-some
returns-clause-some g c =
    let here = (returns-clause-each g c).each Identity in
    omega (arith, here.1.1)
