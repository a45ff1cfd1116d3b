-- One more cell has moved.
use Rattle.std.proofs.Common.{rules, ◌≡◌, length, ap, arith, length-take}
use Rattle.std.specs.Vec.Iter.{into_iter_items}
use Rattle.grid_lines.proofs.CopyLemmas.{moved_more, moved_none}
use Rattle.grid_lines.proofs.rows.fill_row.Goals.{in-Some, in_default}
use Rattle.grid_lines.proofs.rows.fill_row.Goals as goal

pub push_reserved-requires : goal.push_reserved-requires
push_reserved-requires g c = omega (arith, ap length c.loop.invariant.row, length-take c.loop.counter (into_iter_items c.args.cells.now))

pub loop-preserved : goal.loop-preserved
loop-preserved g c =
    let i = c.loop.invariant in
    let all = into_iter_items c.args.cells.now in
    elim c.match-next.branch [
      | in-Some w ↦
          let more = moved_more all c.loop.row.items w.push_reserved.new.self.items _ _ c.loop.counter w.in-Some.cell i.row i.rest w.in-Some.ensures.items w.push_reserved.ensures.items in
          record { row = rw w.row-is more.0; rest = more.1; room = rw w.row-is (omega arith) }
      | in_default w ↦
          let none : length (into_iter_items c.loop.cells) ≡ 0 = search rules in
          let same = w.in_default.ensures.items in
          let more = moved_none all c.loop.row.items (into_iter_items c.loop.cells) (into_iter_items c.next.new.self) c.loop.counter i.row i.rest none (omega (arith, none, ap length same)) in
          record { row = rw w.row-is more.0; rest = more.1; room = rw w.row-is i.room }
    ]
