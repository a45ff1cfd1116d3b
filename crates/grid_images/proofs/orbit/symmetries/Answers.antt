use Rattle.std.proofs.Common.{◌≡◌, ◌<◌, ◌∙◌, ◌↔◌, IsTrue, Contains, [], ◌∷◌, ◌++◌, sym, ap, subst, arith}
use Rattle.grid_base.specs.declared.words.Symmetry.TheVariants.{Identity}
use Rattle.grid_images.specs.Images.{IsGroup, fixing, takes, symmetry_at}
use Rattle.grid_images.proofs.OrbitLemmas.{has_room, kept_first, kept_more, left_out, all_kept, has_fixing, IsGroup-fixing, takes_identity}
use Rattle.grid_images.proofs.orbit.symmetries.Goals as goal
use Rattle.grid_images.proofs.orbit.symmetries.Goals.{then-are_same, else-are_same}

pub loop-i-init : goal.loop-i-init
loop-i-init g c =
    let t = g.V.AsView.rows c.args.board.now in
    kept_first (takes g.T.PartialEq.eq t t) (takes_identity g.met.T.Eq.laws t (g.met.V.AsView.table c.args.board.now)) c.push.new.self (◌∙◌ {b = c.new-fixing.result ++ Identity ∷ []} c.push.ensures (ap (λ xs. xs ++ Identity ∷ []) c.new-fixing.ensures))

pub push-requires-then-are_same : goal.push-requires-then-are_same
push-requires-then-are_same g c =
    has_room (takes g.T.PartialEq.eq (g.V.AsView.rows c.args.board.now) (g.V.AsView.rows c.args.board.now)) c.loop-i.i c.loop-i-test.true c.loop-i.fixing c.loop-i.invariant

pub loop-i-preserved : goal.loop-i-preserved
loop-i-preserved g c =
    let t = g.V.AsView.rows c.args.board.now in
    let p = takes g.T.PartialEq.eq t t in
    let i = c.loop-i.i in
    let small : i < 8 = c.loop-i-test.true in
    let told : p (symmetry_at i) ≡ c.are_same.result = cc in
    elim c.if-are_same.branch [
      | then-are_same w ↦ w.fixing-is ∙ kept_more p i small c.loop-i.fixing w.push-then-are_same.new.self c.loop-i.invariant (told ∙ w.if-are_same.true) w.push-then-are_same.ensures
      | else-are_same w ↦ w.fixing-is ∙ left_out p i small c.loop-i.fixing c.loop-i.invariant (told ∙ w.if-are_same.false)
    ]

pub returns-clause-members : goal.returns-clause-members
unfolding fixing
returns-clause-members g c =
    all_kept (takes g.T.PartialEq.eq (g.V.AsView.rows c.args.board.now) (g.V.AsView.rows c.args.board.now)) c.loop-i.i (omega arith) c.loop-i.fixing c.loop-i.invariant

pub returns-clause-each : goal.returns-clause-each
returns-clause-each g c = λ s.
    let t = g.V.AsView.rows c.args.board.now in
    subst (λ ss. Contains ss s ↔ IsTrue (takes g.T.PartialEq.eq t t s)) (sym (returns-clause-members g c)) (has_fixing g.T.PartialEq.eq t s)

pub returns-clause-group : goal.returns-clause-group
returns-clause-group g c =
    subst IsGroup (sym (returns-clause-members g c)) (IsGroup-fixing g.met.T.Eq.laws (g.V.AsView.rows c.args.board.now) (g.met.V.AsView.table c.args.board.now))

pub returns-clause-some : goal.returns-clause-some
returns-clause-some g c =
    let here = (returns-clause-group g c).identity in
    omega (arith, here.1)
