use Rattle.std.proofs.Common.{◌≡◌, ◌<◌, length, ◌∙◌, ap, refl, subst, arith, Contains, Ok, Some, slice_get}
use Rattle.grid_paths.proofs.Common.{slice_get_read, way_of, undone, TakesAll, cell_in_range}
use Rattle.grid_paths.proofs.Lemmas.{in_range_as, CanUndo-trans, CanUndo-each, Takes-each, IsTaking-start, IsTaking-round, IsFlood-end, IsWritten-end}
use Rattle.grid_paths.proofs.taken.Taking.take_region.Goals as goal

pub returns-in_err-visit_each-clause-kept : goal.returns-in_err-visit_each-clause-kept
returns-in_err-visit_each-clause-kept g c =
    CanUndo-each g.T.PartialEq.eq c.args.cells c.args.starts.now c.visit_each.result c.args.self.now c.visit_each.new.search c.visit_each.ensures

pub loop-next-init : goal.loop-next-init
loop-next-init g c =
    let k = c.args.cells in
    let s = c.args.self.now in
    let new = c.visit_each.new.search in
    let takes = Takes-each g.T.PartialEq.eq k c.args.starts.now (Ok tt) s new c.in_ok-visit_each.ensures in
    record {
      kept = CanUndo-each g.T.PartialEq.eq k c.args.starts.now (Ok tt) s new c.in_ok-visit_each.ensures;
      taking = IsTaking-start s.grid.now.table new.grid.now.rows new.taken.items
          (subst (λ q. TakesAll (way_of g.T.PartialEq.eq k.on k.stop) k.mark (λ a. Contains c.args.starts.now a) s.grid.now.rows q new.grid.now.rows new.taken.items) c.requires.none takes);
    }

pub take_around-requires-clause-at : goal.take_around-requires-clause-at
take_around-requires-clause-at g c =
    let l = c.loop-next in
    let t = c.args.self.now.grid.now in
    let taken = l.self.taken in
    let x = c.index-from.result.now in
    let lt : l.next < length taken.items = omega (arith, taken.ok.0) in
    let place : slice_get taken.items l.next ≡ Some x = slice_get_read taken.items (length taken.items) l.next x refl lt c.index-from.ensures in
    in_range_as t.rows l.self.grid.now.rows l.invariant.kept.same.rows l.invariant.kept.same.cols x.0
    (cell_in_range t.rows t.table (x.0).0 (x.0).1 x.1 (l.invariant.taking.was l.next x place).0)

pub loop-next-preserved : goal.loop-next-preserved
loop-next-preserved g c =
    let l = c.loop-next in
    let taken = l.self.taken in
    let x = c.index-from.result.now in
    let lt : l.next < length taken.items = omega (arith, taken.ok.0) in
    let place : slice_get taken.items l.next ≡ Some x = slice_get_read taken.items (length taken.items) l.next x refl lt c.index-from.ensures in
    let e = c.in_ok-take_around.ensures in
    record {
      kept = CanUndo-trans l.invariant.kept e.kept;
      taking = IsTaking-round c.args.self.now.grid.now.table l.invariant.taking place e.takes;
    }

pub returns-in_err-take_around-clause-kept : goal.returns-in_err-take_around-clause-kept
returns-in_err-take_around-clause-kept g c = CanUndo-trans c.loop-next.invariant.kept c.take_around.ensures.kept

pub loop-next-smaller : goal.loop-next-smaller
loop-next-smaller g c =
    let lt : c.loop-next.next < length c.loop-next.self.taken.items = omega (arith, c.loop-next.self.taken.ok.0) in
    let total = c.in_ok-take_around.ensures.takes.takes.total in
    omega arith

pub returns-clause-kept : goal.returns-clause-kept
returns-clause-kept g c = c.loop-next.invariant.kept

pub returns-clause-flood : goal.returns-clause-flood
returns-clause-flood g c =
    IsFlood-end c.args.self.now.grid.now.table c.loop-next.invariant.taking (omega (arith, c.loop-next.self.taken.ok.0))

pub returns-clause-written : goal.returns-clause-written
returns-clause-written g c =
    let l = c.loop-next in
    let t = c.args.self.now.grid.now in
    let saved = l.invariant.kept.saves ∙ ap (λ q. undone q t.rows) c.requires.none in
    IsWritten-end t.table l.invariant.taking (omega (arith, l.self.taken.ok.0)) saved
