use Rattle.std.proofs.Common.{◌+◌, refl, arith}
use Rattle.grid_paths.proofs.Common.{Holds}
use Rattle.grid_paths.proofs.Lemmas.{Enters-closed, Enters-low, Enters-put, left_inside, same_size, not_less}
use Rattle.grid_paths.proofs.costs.FrontierVisitU128.visit.Goals as goal

pub is_less-requires : goal.is_less-requires
is_less-requires g c =
    let f = c.args.self.now in
    let k = c.in-Some.cost in
    let is_left : Holds f.left.rows c.args.at k = (c.cost_of.ensures k).0 c.in-Some.is in
    same_size f.left.rows f.sums.rows f.left.table c.requires.2.size.rows c.requires.2.size.cols c.args.at k is_left

pub put-requires : goal.put-requires
put-requires g c =
    let f = c.args.self.now in
    let k = c.in-Some.cost in
    let is_left : Holds f.left.rows c.args.at k = (c.cost_of.ensures k).0 c.in-Some.is in
    let whole = c.requires.2 in
    let i = left_inside f.left.rows f.left.table c.args.at k is_left in
    let lr = i.0 in
    let lc = i.1 in
    let rows = whole.rows in
    let cols = whole.cols in
    let below = c.requires.1 in
    record {
      inside = same_size f.left.rows f.sums.rows f.left.table whole.size.rows whole.size.cols c.args.at k is_left;
      row = omega arith;
      col = omega arith;
      small = omega arith;
    }

pub returns-in_ok-put : goal.returns-in_ok-put
returns-in_ok-put g c =
    let k = c.in-Some.cost in
    Enters-put c.args.at k c.put.new.self c.requires.2 ((c.cost_of.ensures k).0 c.in-Some.is) (omega arith) (c.if-is_less.ensures.0 refl) c.in_ok-put.ensures

pub returns-else-is_less : goal.returns-else-is_less
returns-else-is_less g c =
    let k = c.in-Some.cost in
    let low = not_less _ c.args.at (c.args.sum + k) (λ less. let is = c.if-is_less.ensures.1 less in cc) in
    Enters-low c.args.at k c.requires.2 ((c.cost_of.ensures k).0 c.in-Some.is) low

pub returns-in_default : goal.returns-in_default
returns-in_default g c =
    Enters-closed c.args.at c.requires.2 (λ k h. c.in_default.not-Some k ((c.cost_of.ensures k).1 h))
