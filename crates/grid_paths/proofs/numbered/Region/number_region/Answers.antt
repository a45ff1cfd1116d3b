use Rattle.std.proofs.Common.{◌≡◌, ap, ◌<◌, ◌≤◌, [], ◌∷◌, ◌++◌, Ok, Some, length, refl, ◌∙◌, subst, arith}
use Rattle.grid_paths.proofs.Common.{slice_get_read, alike, IsAt, cell_in_range}
use Rattle.grid_paths.proofs.Lemmas.{Numbers-around, Grew, Marks-grew, Marks-fewer, IsNumbering-start, IsNumbering-round, IsNumbered-end}
use Rattle.grid_paths.proofs.numbered.Region.number_region.Goals as goal

pub loop-next-init : goal.loop-next-init
loop-next-init g c =
    let mask = alike g.T.PartialEq.eq c.args.self.now.first.now c.args.self.now.grid.now.rows in
    let u = c.args.bfs.now.numbers.rows in
    let k = c.args.self.now.number in
    let new = c.mark.new.self in
    let marks = c.in_ok-mark.ensures in
    let one : length new.queue.items ≡ 1 = ap length (marks.queue ∙ ap (λ q. q ++ c.args.at ∷ []) c.clear.ensures.items) in
    let fewer = Marks-fewer c.requires.at marks in
    record {
      same = marks.same;
      numbering = IsNumbering-start c.args.self.now.connectivity mask c.args.at k u new.numbers.rows new.queue.items
          (subst (λ q. Grew u q new.numbers.rows new.queue.items c.args.at k) c.clear.ensures.items (Marks-grew c.requires.at marks));
      fewer = omega arith;
    }

pub visit_around-requires : goal.visit_around-requires
visit_around-requires g c =
    let l = c.loop-next in
    let queue = l.bfs.queue in
    let a = c.index-from.result.now in
    let lt : l.next < length queue.items = omega (arith, queue.ok.0) in
    let place : IsAt queue.items l.next a = slice_get_read queue.items (length queue.items) l.next a refl lt c.index-from.ensures in
    let v = l.invariant.numbering.queued l.next a place in
    let u = l.bfs.numbers in
    let i = cell_in_range u.rows u.table a.0 a.1 (Some c.args.self.now.number) v in
    let lr = i.0 in
    let lc = i.1 in
    let rows = u.fits.rows in
    let cols = u.fits.cols in
    let same = l.invariant.same in
    record {
      can = record { rows = same.rows ∙ c.requires.size.rows; cols = same.cols ∙ c.requires.size.cols };
      row_in = omega arith;
      col_in = omega arith;
    }

pub loop-next-preserved : goal.loop-next-preserved
loop-next-preserved g c =
    let mask = alike g.T.PartialEq.eq c.args.self.now.first.now c.args.self.now.grid.now.rows in
    let l = c.loop-next in
    let queue = l.bfs.queue in
    let a = c.index-from.result.now in
    let lt : l.next < length queue.items = omega (arith, queue.ok.0) in
    let place : IsAt queue.items l.next a = slice_get_read queue.items (length queue.items) l.next a refl lt c.index-from.ensures in
    let new = c.visit_around.new.search in
    let v = c.in_ok-visit_around.ensures in
    let e = Numbers-around g.T.PartialEq.eq c.args.self.now a v.0 v.1 (Ok tt) l.bfs new v.2 in
    let before = l.invariant.same in
    record {
      same = record { rows = e.same.rows ∙ before.rows; cols = e.same.cols ∙ before.cols; order = e.same.order ∙ before.order };
      numbering = IsNumbering-round c.args.self.now.connectivity mask c.args.at c.args.self.now.number c.args.bfs.now.numbers.rows l.bfs.numbers.rows queue.items l.next l.invariant.numbering c.requires.below
          a new.numbers.rows new.queue.items place e.round;
      fewer = e.round.spread.total ∙ l.invariant.fewer;
    }

pub loop-next-smaller : goal.loop-next-smaller
loop-next-smaller g c =
    let queue = c.loop-next.bfs.queue in
    let lt : c.loop-next.next < length queue.items = omega (arith, queue.ok.0) in
    let v = c.in_ok-visit_around.ensures in
    let total = (Numbers-around g.T.PartialEq.eq c.args.self.now c.index-from.result.now v.0 v.1 (Ok tt) c.loop-next.bfs c.visit_around.new.search v.2).round.spread.total in
    omega arith

pub returns-clause-numbered : goal.returns-clause-numbered
returns-clause-numbered g c =
    let mask = alike g.T.PartialEq.eq c.args.self.now.first.now c.args.self.now.grid.now.rows in
    let l = c.loop-next in
    let queue = l.bfs.queue in
    let all : length queue.items ≤ l.next = omega (arith, queue.ok.0) in
    IsNumbered-end c.args.self.now.connectivity mask c.args.at c.args.self.now.number c.args.bfs.now.numbers.rows l.bfs.numbers.rows queue.items l.next l.invariant.numbering c.requires.below all

pub returns-clause-fewer : goal.returns-clause-fewer
returns-clause-fewer g c =
    let some = c.loop-next.invariant.numbering.some in
    let fewer = c.loop-next.invariant.fewer in
    omega arith
