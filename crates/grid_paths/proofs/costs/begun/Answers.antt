use Rattle.std.proofs.Common.{refl, sym, subst, ap, map, arith}
use Rattle.grid_paths.proofs.Common.{Holds, IsSearching, entry_of}
use Rattle.grid_paths.proofs.Lemmas.{same_size, left_inside, IsSearching-closed, IsSearching-begun}
use Rattle.grid_paths.proofs.costs.begun.Goals.{in-Some+in_ok-put, in_default}
use Rattle.grid_paths.proofs.costs.begun.Goals as goal

pub put-requires : goal.put-requires
put-requires g c =
    let costs = c.args.costs in
    let from = c.args.from in
    let k = c.in-Some.field-0 in
    let is_left : Holds costs.rows from k = (c.cost_of.ensures k).0 c.in-Some.is in
    let size = c.in_ok-sums.ensures.size in
    let i = left_inside costs.rows costs.table from k is_left in
    let lr = i.0 in
    let lc = i.1 in
    let rows = c.requires.rows in
    let cols = c.requires.cols in
    let sums = c.requires.sums in
    record {
      inside = same_size costs.rows c.in_ok-sums.sums.rows costs.table size.rows size.cols from k is_left;
      row = omega arith;
      col = omega arith;
      small = omega arith;
    }

pub returns-clause-search : goal.returns-clause-search
returns-clause-search g c =
    λ connectivity.
    let w = g.N.Width.reads in
    let costs = c.args.costs in
    let from = c.args.from in
    let sums = c.in_ok-sums.sums in
    let made = c.in_ok-sums.ensures in
    let heap = c.in_ok-heap.heap in
    let nothing = ap (map (entry_of w)) c.in_ok-heap.ensures.items in
    elim c.match-cost_of.branch [
      | in-Some+in_ok-put b ↦
          let k = b.in-Some.field-0 in
          subst (λ f. IsSearching g.N.Ord.cmp w connectivity costs from f) (sym b.search-is)
          (IsSearching-begun connectivity costs from (record { left = costs; sums = sums; heap = heap })
          (record { size = made.size; rows = c.requires.rows; cols = c.requires.cols; heap_order = c.in_ok-heap.ensures.heap_order })
          c.requires refl made.order made.none nothing b.put.new.self k ((c.cost_of.ensures k).0 b.in-Some.is) b.in_ok-put.ensures)
      | in_default b ↦
          subst (λ f. IsSearching g.N.Ord.cmp w connectivity costs from f) (sym b.search-is)
          (IsSearching-closed connectivity costs from (record { left = costs; sums = sums; heap = heap })
          (record { size = made.size; rows = c.requires.rows; cols = c.requires.cols; heap_order = c.in_ok-heap.ensures.heap_order })
          c.requires refl made.order made.none nothing (λ k h. b.in_default.not-Some k ((c.cost_of.ensures k).1 h)))
    ]
