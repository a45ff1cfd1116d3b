use Rattle.std.proofs.Common.{◌≡◌, ◌<◌, ◌+◌, ◌*◌, ◌∙◌, ap, arith, length, get_or, pos}
use Rattle.std.proofs.lemmas.Int.{ints}
use Rattle.grid_base.proofs.Common.{col_count}
use Rattle.std.proofs.lemmas.List.{get_or_default}
use Rattle.grid_sums.specs.Corners.{at}
use Rattle.grid_sums.proofs.BuildLemmas.{row_more, row_full, within_one}
use Rattle.grid_sums.proofs.sums.push_row.Goals as goal

pub overflow_add-sum_above : goal.overflow_add-sum_above
overflow_add-sum_above g c =
    let i = c.loop-col.invariant.summed in
    let n = c.cols-cols.result in
    let step = ap (λ x. c.args.row * (x + 1)) c.cols-cols.ensures in
    let k = c.args.row * (n + 1) + 1 + c.loop-col.col in
    let lt : k < length c.loop-col.sums.items = omega (arith, i.count, c.requires.sums.count, step) in
    let is = c.index-sum_above.ensures ∙ get_or_default c.loop-col.sums.items k _ (pos 0) lt in
    let small = i.small.small k lt in
    omega (arith, ints, is, small.low, small.high, i.within.low, i.within.high, c.loop-col.sum-is, c.from-sum.ensures, c.f.type_inv)

pub loop-col-preserved : goal.loop-col-preserved
loop-col-preserved g c =
    let i = c.loop-col.invariant.summed in
    let t = c.args.board.now.rows in
    let r = c.args.row in
    let n = c.loop-col.col in
    let items = c.loop-col.sums.items in
    let step = ap (λ x. r * (x + 1)) c.cols-cols.ensures in
    let k = r * (c.cols-cols.result + 1) + 1 + n in
    let lt : k < length items = omega (arith, i.count, c.requires.sums.count, step) in
    let small = i.small.small k lt in
    let place : k ≡ r * (col_count t + 1) + (n + 1) = omega (arith, step) in
    let read = c.index-sum_above.ensures ∙ get_or_default items k _ (pos 0) lt in
    let is : get_or items k (pos 0) ≡ at (col_count t + 1) items r (n + 1) = ap (λ j. get_or items j (pos 0)) place in
    let p = c.push_reserved-in-loop-col.ensures in
    record {
      room = p.capacity ∙ c.loop-col.invariant.room;
      summed = rw p.items (row_more _ _ t r n _ items _ c.f.result _ _ c.requires.sums.count (omega arith) i
          (record { shown = c.get_unchecked.result; shows = c.get_unchecked.ensures; says = c.f.ensures; within = within_one _ c.f.type_inv })
          (omega (arith, ints, c.from-sum.ensures, c.f.type_inv, c.loop-col.sum-is, i.within.low, i.within.high))
          (omega (arith, ints, read, is, small.low, small.high, i.within.low, i.within.high, c.loop-col.sum-is, c.from-sum.ensures, c.f.type_inv)));
    }

pub returns-clause-sums : goal.returns-clause-sums
returns-clause-sums g c =
    let i = c.loop-col.invariant.summed in
    let t = c.args.board.now.rows in
    let e : c.loop-col.col ≡ col_count t = omega arith in
    row_full _ _ t c.args.row _ _ c.loop-col.sums.items _ e c.requires.sums i
