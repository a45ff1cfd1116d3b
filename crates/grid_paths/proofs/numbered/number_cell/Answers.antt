use Rattle.std.proofs.Common.{Some, ◌∙◌, ap, arith}
use Rattle.grid_paths.proofs.Common.{IsMarked, HaveOneSize}
use Rattle.grid_paths.proofs.Lemmas.{IsScanned-marked, IsScanned-numbered}
use Rattle.grid_paths.proofs.numbered.number_cell.Goals as goal

pub number_region-requires : goal.number_region-requires
number_region-requires g c =
    let counting = c.requires.counting in
    record { size = counting.size; at = c.index.ensures ∙ ap Some c.in-None.is; below = counting.scanned.below }

pub returns-in-Some : goal.returns-in-Some
returns-in-Some g c =
    let u = c.args.bfs.now.numbers.rows in
    let counting = c.requires.counting in
    let mark : IsMarked u c.args.at c.in-Some.field-0 = c.index.ensures ∙ ap Some c.in-Some.is in
    record {
      order = counting.order;
      size = counting.size;
      scanned = IsScanned-marked c.args.connectivity g.T.PartialEq.eq c.args.grid.now.rows u c.args.count c.args.at c.in-Some.field-0 mark counting.scanned;
      room = counting.room;
    }

pub returns-in_ok-number_region-in-None : goal.returns-in_ok-number_region-in-None
returns-in_ok-number_region-in-None g c =
    let new = c.number_region.new.bfs.numbers in
    let counting = c.requires.counting in
    let done = c.in_ok-number_region-in-None.ensures in
    let size : HaveOneSize new.rows c.args.grid.now.rows = record { rows = done.same.rows ∙ counting.size.rows; cols = done.same.cols ∙ counting.size.cols } in
    let room = counting.room in
    let fewer = done.fewer in
    record {
      order = done.same.order ∙ counting.order;
      size = size;
      scanned = IsScanned-numbered c.args.connectivity g.T.PartialEq.eq c.args.grid.now.rows c.args.grid.now.table c.args.bfs.now.numbers.rows new.rows new.table size
          c.args.count c.args.at c.index-in-None.result.now c.index-in-None.ensures counting.scanned done.numbered;
      room = omega arith;
    }
