use Rattle.std.proofs.Common.{◌≡◌, suc, ◌-◌, ◌++◌, ◌∷◌, [], Some, length, subst, sym, ap, ◌∙◌, refl, arith, slice_get}
use Rattle.grid_paths.proofs.Common.{slice_get_within, slice_get_read, length-map}
use Rattle.grid_paths.proofs.Lemmas.{IsFollowed, IsFollowed-start, IsFollowed-found, IsFollowed-past}
use Rattle.grid_paths.specs.Kept.{trail_of, settled_of}
use Rattle.grid_paths.proofs.KeptLemmas.{trail_at}
use Rattle.grid_paths.proofs.cheap_path.follow.Goals as goal

pub loop-left-init : goal.loop-left-init
loop-left-init g c =
    let w = g.N.Width.reads in
    let trail = c.args.trail.now in
    let xs = trail_of w trail.items in
    let last = c.args.last in
    let same : length xs ≡ length trail.items = length-map trail.items (settled_of w) in
    let some = slice_get_within xs (length trail.items - 1) last c.requires in
    let ends : slice_get xs (length xs - 1) ≡ Some last = subst (λ n. slice_get xs (n - 1) ≡ Some last) (sym same) c.requires in
    let items : c.push.new.self.items ≡ last.at ∷ [] = c.in_ok-push.ensures.items ∙ ap (λ x. x ++ last.at ∷ []) c.new-path.ensures.items in
    let len : length xs ≡ c.len-left.result = omega (arith, trail.ok.0) in
    record {
      within = omega (arith, len);
      follows = λ costs from h.
          subst (λ x. IsFollowed c.args.connectivity from costs xs last last c.len-left.result x) (sym items)
          (subst (λ n. IsFollowed c.args.connectivity from costs xs last last n (last.at ∷ [])) len
          (IsFollowed-start c.args.connectivity from costs xs h last ends (omega arith)));
    }

pub loop-left-preserved : goal.loop-left-preserved
loop-left-preserved g c =
    let w = g.N.Width.reads in
    let trail = c.args.trail.now in
    let xs = trail_of w trail.items in
    let left = c.loop-left.left - 1 in
    let within = c.loop-left.invariant.within in
    let is : c.loop-left.left ≡ suc left = omega arith in
    let y = c.settled-before.result in
    let here = c.loop-left.here in
    let path = c.loop-left.path.items in
    record {
      within = omega arith;
      follows = λ costs from h.
          let kept = slice_get_read trail.items (length trail.items) left c.index.result.now refl (omega arith) c.index.ensures in
          IsFollowed-past c.args.connectivity from costs xs h c.args.last here left path
          (subst (λ n. IsFollowed c.args.connectivity from costs xs c.args.last here n path) is (c.loop-left.invariant.follows costs from h))
          y (trail_at w trail.items left c.index.result.now y kept c.settled-before.ensures) (λ w. let is = c.if-comes_from.ensures.1 w in cc);
    }

pub loop-left-preserved-then-comes_from : goal.loop-left-preserved-then-comes_from
loop-left-preserved-then-comes_from g c =
    let w = g.N.Width.reads in
    let trail = c.args.trail.now in
    let xs = trail_of w trail.items in
    let left = c.loop-left.left - 1 in
    let within = c.loop-left.invariant.within in
    let is : c.loop-left.left ≡ suc left = omega arith in
    let y = c.settled-before.result in
    let here = c.loop-left.here in
    let path = c.loop-left.path.items in
    let comes = c.if-comes_from.ensures.0 refl in
    record {
      within = omega arith;
      follows = λ costs from h.
          let kept = slice_get_read trail.items (length trail.items) left c.index.result.now refl (omega arith) c.index.ensures in
          subst (λ p. IsFollowed c.args.connectivity from costs xs c.args.last y left p) (sym c.in_ok-push-2.ensures.items)
          (IsFollowed-found c.args.connectivity from costs xs h c.args.last here left path
          (subst (λ n. IsFollowed c.args.connectivity from costs xs c.args.last here n path) is (c.loop-left.invariant.follows costs from h))
          y (trail_at w trail.items left c.index.result.now y kept c.settled-before.ensures) comes.0 comes.1);
    }

pub index-requires : goal.index-requires
index-requires g c =
    let trail = c.args.trail.now in
    let within = c.loop-left.invariant.within in
    omega (arith, trail.ok.0)
