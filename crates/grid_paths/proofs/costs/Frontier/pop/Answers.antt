use Rattle.std.proofs.Common.{◌≡◌, ◌≤◌, refl, sym, ap, subst, heap_items, map, length, arith}
use Rattle.std.proofs.lemmas.List.{nil_from_length}
use Rattle.grid_paths.proofs.Common.{entry_of}
use Rattle.grid_paths.proofs.Lemmas.{waits_no_more, least_first}
use Rattle.grid_paths.proofs.costs.Frontier.pop.Goals as goal

pub returns-in-Some : goal.returns-in-Some
returns-in-Some g c =
    let w = g.N.Width.reads in
    let x = c.in-Some.first in
    let e = c.in-Some.ensures in
    let heap = heap_items c.args.self.now.heap in
    let heap' = heap_items c.pop.new.self in
    record {
      left = refl;
      sums = refl;
      heap_order = λ h. (e.heap_order h).0;
      taken = waits_no_more w x.0.0 x.0.1 c.value.result c.position.result (sym c.value.ensures) (sym c.position.ensures) heap heap' e.permutation;
      first = λ h s a q. subst (λ n. n ≤ s) (sym c.value.ensures) (least_first g.N.Ord.cmp w g.met.N.Width.ordered x heap' (e.below_top h) s a q);
      fewer = e.len;
    }

pub returns-in-None : goal.returns-in-None
returns-in-None g c =
    let heap = c.args.self.now.heap in
    let len : length (heap_items heap) ≡ 0 = omega (arith, heap.data.ok.0, c.in-None.ensures.none) in
    let is = nil_from_length (heap_items heap) len in
    record { sums = refl; empty = ap (map (entry_of g.N.Width.reads)) is }
