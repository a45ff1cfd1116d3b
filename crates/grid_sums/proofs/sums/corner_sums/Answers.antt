use Rattle.std.proofs.Common.{◌≡◌, ◌+◌, ◌*◌, ◌∙◌, ap, arith, length}
use Rattle.grid_base.proofs.Common.{row_count}
use Rattle.grid_sums.proofs.BuildLemmas.{rows_none, zeros_more}
use Rattle.grid_sums.proofs.sums.corner_sums.Goals as goal

pub loop-init : goal.loop-init
loop-init g c =
    let p = c.in_ok-sums.ensures in
    let rows = ap (λ x. (x + 1) * (c.size-rows.result.1 + 1)) c.size-rows.ensures.rows in
    let cols = ap (λ x. (row_count c.args.board.now.rows + 1) * (x + 1)) c.size-rows.ensures.cols in
    let none = ap length p.items in
    record {
      room = p.exact ∙ (c.in-Some.ensures.0 ∙ (rows ∙ cols));
      count = none;
      zero = λ k lt. absurd (omega (arith, none));
    }

pub push_reserved-requires : goal.push_reserved-requires
push_reserved-requires g c =
    let i = c.loop.invariant in
    omega (arith, i.room, i.count, c.size-rows.ensures.cols)

pub loop-preserved : goal.loop-preserved
loop-preserved g c =
    let i = c.loop.invariant in
    let p = c.push_reserved.ensures in
    record {
      room = p.capacity ∙ i.room;
      count = omega (arith, i.count, p.len);
      zero = rw p.items (zeros_more c.loop.sums.items i.zero);
    }

pub loop-row-init : goal.loop-row-init
loop-row-init g c =
    let i = c.loop.invariant in
    record {
      room = i.room;
      summed = rows_none _ _ c.args.board.now.rows c.loop.sums.items (omega (arith, i.count, c.size-rows.ensures.cols)) i.zero;
    }

pub returns-clause-sums : goal.returns-clause-sums
returns-clause-sums g c =
    let e : c.loop-row.row ≡ row_count c.args.board.now.rows = omega (arith, c.size-rows.ensures.rows) in
    rw (← e) c.loop-row.invariant.summed
