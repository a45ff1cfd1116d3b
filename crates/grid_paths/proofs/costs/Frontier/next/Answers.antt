use Rattle.std.proofs.Common.{None, ◌∙◌, sym, ap, subst, arith}
use Rattle.grid_paths.proofs.Common.{with_cell, rows-written, cols-with_cell, Holds, IsClosed, IsEnough, Entry, sums_of, waiting}
use Rattle.grid_paths.proofs.Lemmas.{left_inside, IsCostSearch-stale}
use Rattle.grid_base.specs.Table.{row_count, col_count}
use Rattle.grid_paths.proofs.costs.Frontier.next.Goals as goal

pub loop-first-smaller : goal.loop-first-smaller
loop-first-smaller g c = let fewer = c.in-Some.ensures.fewer in omega arith

pub loop-first-preserved : goal.loop-first-preserved
loop-first-preserved g c =
    let w = g.N.Width.reads in
    let f = c.args.self.now in
    let l = c.loop-first in
    let p = c.in-Some.ensures in
    let x : Entry = record { 0 = c.in-Some.first } in
    let was = p.left ∙ l.invariant.left in
    let closed : IsClosed f.left.rows x.0.1 = subst (λ t. IsClosed t.rows x.0.1) was (λ k h. c.in_default-cost_of.not-Some k ((c.cost_of.ensures k).1 h)) in
    record {
      left = was;
      sums = p.sums ∙ l.invariant.sums;
      heap_order = p.heap_order l.invariant.heap_order;
      enough = λ connectivity costs from s.
          IsCostSearch-stale connectivity costs from (sums_of w f) f.left.rows (waiting w l.self) (l.invariant.enough connectivity costs from s) x (waiting w c.pop.new.self) p.taken closed;
    }

pub index_mut-requires : goal.index_mut-requires
index_mut-requires g c =
    let t = c.pop.new.self.left in
    left_inside t.rows t.table c.in-Some.first.1 c.in-Some-cost_of.cost ((c.cost_of.ensures c.in-Some-cost_of.cost).0 c.in-Some-cost_of.is)

pub returns-in-Some-cost_of : goal.returns-in-Some-cost_of
returns-in-Some-cost_of g c =
    let w = g.N.Width.reads in
    let l = c.loop-first in
    let p = c.in-Some.ensures in
    let t = c.pop.new.self.left in
    let at = c.in-Some.first.1 in
    let k = c.in-Some-cost_of.cost in
    let is_left : Holds t.rows at k = (c.cost_of.ensures k).0 c.in-Some-cost_of.is in
    let whole = c.requires in
    let was = p.left ∙ l.invariant.left in
    let sums = p.sums ∙ l.invariant.sums in
    let rows = rows-written t.rows at.0 at.1 None ∙ ap (λ t. row_count t.rows) was in
    let cols = cols-with_cell t.rows t.table at.0 at.1 None ∙ ap (λ t. col_count t.rows) was in
    record {
      is_left = subst (λ t. Holds t.rows at k) was is_left;
      left = ap (λ t. with_cell t.rows at.0 at.1 None) was;
      size = record { rows = rows; cols = cols };
      sums = sums;
      heap = waiting w l.self;
      enough = l.invariant.enough;
      taken = p.taken;
      first = p.first l.invariant.heap_order;
      whole = record {
        size = record {
          rows = ap (λ u. row_count u.rows) sums ∙ (whole.size.rows ∙ sym rows);
          cols = ap (λ u. col_count u.rows) sums ∙ (whole.size.cols ∙ sym cols);
        };
        rows = omega (arith, rows, whole.rows);
        cols = omega (arith, cols, whole.cols);
        heap_order = p.heap_order l.invariant.heap_order;
      };
    }

pub returns : goal.returns
returns g c =
    let l = c.loop-first in
    let e = c.in_default.ensures in
    record {
      sums = e.sums ∙ l.invariant.sums;
      enough = subst (λ h. IsEnough g.N.Width.reads c.args.self.now h) e.empty l.invariant.enough;
    }
