use Rattle.std.proofs.Common.{◌≡◌, ℕ, Bool, true, false, ◌&&◌, nat_eq, eqb-true, eq-eqb, refl, ◌-◌, ◌++◌, ◌∷◌, [], Some, length, sym, ap, subst, ◌∙◌, arith, slice_get, length-append}
use Rattle.grid_paths.proofs.Common.{IsCheapestPath, IsCostSearch, IsTrail, sums_of, waiting, length-map}
use Rattle.grid_paths.specs.Kept.{settled_of, trail_of}
use Rattle.grid_paths.proofs.KeptLemmas.{trail-push}
use Rattle.grid_paths.proofs.AroundLemmas.{same_pair}
use Rattle.grid_paths.proofs.Lemmas.{at_end, IsNext-ready, IsNext-comes, IsNext-least, IsSearching-next, IsSearching-smaller, settled_before, settled_fewer, settled_there, IsOver-no_way, IsKept, IsKept-start, IsTrail-push, IsKept-push}
use Rattle.grid_paths.proofs.cheap_path.path_by.Goals as goal

both_true : (a b : Bool) → a && b ≡ true → (a ≡ true) × (b ≡ true)
both_true true b e = (refl, e)
both_true false b e = absurd (cc)

-- positions that are compared as equal
same_at : (a b : ℕ × ℕ) → nat_eq a.0 b.0 && nat_eq a.1 b.1 ≡ true → a ≡ b
same_at a b e =
    let both = both_true (nat_eq a.0 b.0) (nat_eq a.1 b.1) e in
    same_pair a b (eqb-true a.0 b.0 both.0) (eqb-true a.1 b.1 both.1)

is_other : (a b : ℕ × ℕ) → nat_eq a.0 b.0 && nat_eq a.1 b.1 ≡ false → b ≡ a → ⊥
is_other a b e same =
    let row = eq-eqb a.0 b.0 (sym (ap (λ x. x.0) same)) in
    let col = eq-eqb a.1 b.1 (sym (ap (λ x. x.1) same)) in
    let is : nat_eq a.0 b.0 && nat_eq a.1 b.1 ≡ true = ap (λ x. x && nat_eq a.1 b.1) row ∙ col in
    let clash : true ≡ false = sym is ∙ e in
    cc

pub loop-here-init : goal.loop-here-init
loop-here-init g c =
    let w = g.N.Width.reads in
    let f = c.in_ok-search.search in
    let costs = c.args.costs.rows in
    let left = c.in_ok-search.ensures.left in
    let search = c.in_ok-search.ensures.search c.args.connectivity in
    record {
      search = search;
      kept = subst (λ xs. IsKept c.args.connectivity c.args.from costs (sums_of w f) f.left.rows c.args.to xs) (sym (ap (trail_of w) c.new-trail.ensures.items))
          (subst (λ t. IsKept c.args.connectivity c.args.from costs (sums_of w f) t.rows c.args.to []) (sym left)
          (IsKept-start c.args.connectivity c.args.from costs (sums_of w f) (waiting w f) c.args.to
          (subst (λ t. IsCostSearch c.args.connectivity costs c.args.from (sums_of w f) t.rows (waiting w f)) left search.search)));
    }

pub keep-requires : goal.keep-requires
keep-requires g c = IsNext-ready c.loop-here.invariant.search c.in-Some.ensures

pub relax_around-requires : goal.relax_around-requires
relax_around-requires g c = IsNext-ready c.loop-here.invariant.search c.in-Some.ensures

pub loop-here-smaller : goal.loop-here-smaller
loop-here-smaller g c = IsSearching-smaller c.loop-here.invariant.search c.in-Some.ensures c.in_ok-relax_around.ensures

pub follow-requires : goal.follow-requires
follow-requires g c =
    let w = g.N.Width.reads in
    let old = c.loop-here.trail.items in
    let kept = c.keep.result in
    let here = c.in-Some.here in
    let items : c.push.new.self.items ≡ old ++ kept ∷ [] = c.in_ok-push.ensures.items in
    let xs = trail_of w old in
    let len : length c.push.new.self.items - 1 ≡ length xs = let long = ap length items ∙ length-append old (kept ∷ []) in omega (arith, length-map old (settled_of w)) in
    subst (λ x. slice_get x (length c.push.new.self.items - 1) ≡ Some here) (sym (trail-push w old c.push.new.self.items kept here items c.keep.ensures))
    (subst (λ n. slice_get (xs ++ here ∷ []) n ≡ Some here) (sym len) (at_end xs here))

pub returns-then-eq : goal.returns-then-eq
returns-then-eq g c =
    let w = g.N.Width.reads in
    let l = c.loop-here in
    let here = c.in-Some.here in
    let n = c.in-Some.ensures in
    let comes = IsNext-comes l.invariant.search n in
    let trail = IsTrail-push c.args.connectivity c.args.from c.args.costs.rows (sums_of w l.search) l.search.left.rows c.args.to (trail_of w l.trail.items) l.invariant.kept here here.cost n.is_left comes.0 comes.1 in
    let to = same_at here.at c.args.to (sym c.eq.ensures ∙ c.if-eq.true) in
    let now = trail-push w l.trail.items c.push.new.self.items c.keep.result here c.in_ok-push.ensures.items c.keep.ensures in
    subst (λ b. IsCheapestPath c.args.connectivity c.args.costs.rows c.args.from b c.in_ok-follow.field-0.items here.sum) to
    (record {
      leads = c.in_ok-follow.ensures c.args.costs.rows c.args.from (subst (λ xs. IsTrail c.args.connectivity c.args.from c.args.costs.rows xs) (sym now) trail);
      least = IsNext-least l.invariant.search n;
    })

pub loop-here-preserved : goal.loop-here-preserved
loop-here-preserved g c =
    let w = g.N.Width.reads in
    let l = c.loop-here in
    let u = sums_of w l.search in
    let left = l.search.left.rows in
    let new = c.relax_around.new.self in
    let here = c.in-Some.here in
    let s = l.invariant.search in
    let n = c.in-Some.ensures in
    let e = c.in_ok-relax_around.ensures in
    let comes = IsNext-comes s n in
    let xs = trail_of w l.trail.items in
    let trail = IsTrail-push c.args.connectivity c.args.from c.args.costs.rows u left c.args.to xs l.invariant.kept here here.cost n.is_left comes.0 comes.1 in
    let other = is_other here.at c.args.to (sym c.eq.ensures ∙ c.if-eq.false) in
    let now = trail-push w l.trail.items c.push.new.self.items c.keep.result here c.in_ok-push.ensures.items c.keep.ensures in
    record {
      search = IsSearching-next s n e;
      kept = subst (λ xs. IsKept c.args.connectivity c.args.from c.args.costs.rows (sums_of w new) new.left.rows c.args.to xs) (sym now)
          (IsKept-push c.args.connectivity c.args.from c.args.costs.rows u left (sums_of w new) new.left.rows here (settled_before s n e) (settled_fewer s n e) c.args.to xs l.invariant.kept trail (settled_there s n e) other);
    }

pub returns : goal.returns
returns g c = IsOver-no_way c.loop-here.invariant.search c.in_default.ensures c.args.to c.loop-here.invariant.kept.not_yet
