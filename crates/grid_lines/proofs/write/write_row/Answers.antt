-- One more item, and in the end all that come or go in.
use Rattle.std.proofs.Common.{rules, ◌≡◌, ◌∙◌, true, false, length, ◌<◌, refl, sym, arith}
use Rattle.grid_base.proofs.Common.{row}
use Rattle.grid_lines.proofs.WrittenLemmas.{written_none, written_next, written_last, written_full, written_no_row}
use Rattle.grid_lines.proofs.write.write_row.Goals as goal

pub returns-then-rows-r-clause-rows : goal.returns-then-rows-r-clause-rows
returns-then-rows-r-clause-rows g c = written_no_row g.I.Iterator.next_gives c.args.items c.args.grid.now.rows c.args.r (omega (arith, c.if-rows-r.true, c.size-rows.ensures.rows))

pub loop-col-init : goal.loop-col-init
loop-col-init g c = record {
  can = c.requires;
  written = written_none g.I.Iterator.next_gives c.args.items c.args.grid.now.rows c.args.r;
  row_count = refl;
  col_count = refl;
  order = refl;
}

pub write_next-requires : goal.write_next-requires
write_next-requires g c =
    let i = c.loop-col.invariant in
    record { can = i.can; in_range = (omega (arith, i.row_count, c.if-rows-r.false, c.size-rows.ensures.rows), omega (arith, i.col_count, c.loop-col-test.true, c.size-rows.ensures.cols)) }

pub returns-then-not-write_next-clause-rows : goal.returns-then-not-write_next-clause-rows
returns-then-not-write_next-clause-rows g c =
    let ended : c.write_next.result ≡ false = search rules in
    written_last g.I.Iterator.next_gives c.args.items c.args.grid.now.rows c.args.r g.I.Iterator.can_next c.loop-col.items c.write_next.new.items c.loop-col.col c.loop-col.grid.rows c.write_next.new.grid.rows c.write_next.result c.loop-col.invariant.written c.write_next.ensures.item ended

pub loop-col-preserved : goal.loop-col-preserved
loop-col-preserved g c =
    let i = c.loop-col.invariant in
    let t = c.args.grid.now in
    let got : c.write_next.result ≡ true = search rules in
    let lt : c.args.r < length t.rows = omega (arith, c.if-rows-r.false, c.size-rows.ensures.rows) in
    let room : c.loop-col.col < length (row t.rows c.args.r) = omega (arith, t.table.even c.args.r lt, c.loop-col-test.true, c.size-rows.ensures.cols) in
    let more = written_next g.I.Iterator.next_gives c.args.items t.rows c.args.r g.I.Iterator.can_next c.loop-col.items c.write_next.new.items c.loop-col.col c.loop-col.grid.rows c.write_next.new.grid.rows c.write_next.result i.written c.write_next.ensures.item got lt room in
    record {
      can = more.0;
      written = more.1;
      row_count = c.write_next.ensures.row_count ∙ i.row_count;
      col_count = c.write_next.ensures.col_count ∙ i.col_count;
      order = c.write_next.ensures.order ∙ i.order;
    }

pub returns-clause-rows : goal.returns-clause-rows
returns-clause-rows g c =
    let t = c.args.grid.now in
    let lt : c.args.r < length t.rows = omega (arith, c.if-rows-r.false, c.size-rows.ensures.rows) in
    let at : c.loop-col.col ≡ c.size-rows.result.1 = omega (arith, c.loop-col-test.false, c.loop-col.auto.col-end) in
    let full : c.loop-col.col ≡ length (row t.rows c.args.r) = omega (arith, t.table.even c.args.r lt, at, c.size-rows.ensures.cols) in
    rw (sym at) (written_full g.I.Iterator.next_gives c.args.items t.rows c.args.r c.loop-col.items c.loop-col.col c.loop-col.grid.rows c.loop-col.invariant.written full)
