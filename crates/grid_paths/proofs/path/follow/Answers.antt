use Rattle.std.proofs.Common.{◌≡◌, suc, ◌+◌, ◌-◌, [], ◌∷◌, ◌++◌, Some, length, sym, ◌∙◌, ap, subst, arith, length-append}
use Rattle.grid_paths.proofs.Common.{IsPath, IsMarked, cell_in_range}
use Rattle.grid_paths.proofs.Lemmas.{one_less, open_end, zero_at, IsPath-one, IsPath-push}
use Rattle.grid_paths.proofs.path.follow.Goals as goal

pub loop-left-init : goal.loop-left-init
loop-left-init g c =
    let from = c.args.from in
    let items : c.push.new.self.items ≡ from ∷ [] = c.in_ok-push.ensures.items ∙ ap (λ x. x ++ from ∷ []) c.in_ok-path.ensures.items in
    let long : length c.push.new.self.items ≡ 1 = ap length items in
    record {
      mark = c.requires.mark;
      path = λ connectivity mask to h.
          let s = h.least from c.args.count (omega arith) c.requires.mark in
          subst (λ x. IsPath connectivity mask from from x) (sym items) (IsPath-one connectivity mask from (open_end connectivity mask c.args.count to from s.walk));
      most = omega arith;
      len = omega arith;
    }

pub next_with-at-requires : goal.next_with-at-requires
next_with-at-requires g c =
    cell_in_range c.args.steps.now.rows c.args.steps.now.table c.loop-left.at.0 c.loop-left.at.1 (Some c.loop-left.left) c.loop-left.invariant.mark

pub loop-left-preserved : goal.loop-left-preserved
loop-left-preserved g c =
    let steps = c.args.steps.now.rows in
    let from = c.args.from in
    let left = c.loop-left.left in
    let at = c.loop-left.at in
    let old = c.loop-left.path.items in
    let next = c.next_with-at.result in
    let is : left ≡ suc (left - 1) = omega arith in
    let mark = subst (λ x. IsMarked steps at x) is c.loop-left.invariant.mark in
    let most = c.loop-left.invariant.most in
    let items : c.push-in-loop-left.new.self.items ≡ old ++ next ∷ [] = c.in_ok-push-2.ensures.items in
    let long : length c.push-in-loop-left.new.self.items ≡ length old + 1 = ap length items ∙ length-append old (next ∷ []) in
    let w = c.requires.least in
    let b = one_less w.0 w.1 w.2 steps c.args.count w.3 at (left - 1) (omega arith) mark in
    let found = c.next_with-at.ensures w.0 b.0 b.1 b.2 in
    record {
      mark = found.1;
      path = λ connectivity mask to h.
          let b = one_less connectivity mask to steps c.args.count h at (left - 1) (omega arith) mark in
          let v = c.next_with-at.ensures connectivity b.0 b.1 b.2 in
          let s = h.least next (left - 1) (omega arith) v.1 in
          subst (λ x. IsPath connectivity mask from next x) (sym items)
          (IsPath-push connectivity mask from at next old (c.loop-left.invariant.path connectivity mask to h) v.0 (open_end connectivity mask (left - 1) to next s.walk));
      most = omega arith;
      len = omega arith;
    }

pub returns-clause-path : goal.returns-clause-path
returns-clause-path g c =
    λ connectivity mask to h.
    let steps = c.args.steps.now.rows in
    let at = c.loop-left.at in
    let none : c.loop-left.left ≡ 0 = omega arith in
    let mark = subst (λ x. IsMarked steps at x) none c.loop-left.invariant.mark in
    let e : at ≡ to = zero_at connectivity mask to steps c.args.count h at mark in
    subst (λ x. IsPath connectivity mask c.args.from x c.loop-left.path.items) e (c.loop-left.invariant.path connectivity mask to h)
