use Rattle.std.proofs.Common.{◌<◌, ◌≤◌, ◌∙◌, ap, arith, length, map, get_or, insert}
use Rattle.test_support.proofs.PlainLemmas.{put-grown, put-past}
use Rattle.test_support.proofs.plain.cols.insert_into_rows.Goals.{in-Some+in_ok-row_with_cell+in_ok-push, in_default}
use Rattle.test_support.proofs.plain.cols.insert_into_rows.Goals as goal

pub loop-r-preserved : goal.loop-r-preserved
loop-r-preserved g c =
    let on = c.deref.ensures.value in
    let r = c.loop-r.r in
    elim c.match-get.branch [
      | in-Some+in_ok-row_with_cell+in_ok-push w ↦
          let found = w.in-Some.ensures.lookup in
          let v = w.in-Some.row.now in
          let lt : r < length c.args.table.now.items = omega (arith, found.3.0, ap length on) in
          put-grown (λ l. l.items) c.args.at c.args.line.now c.args.table.now.items _ _ r c.index-line-r.result v _ c.loop-r-test.true c.index-line-r.is lt (found.1 ∙ ap (λ xs. get_or xs r v) on) c.loop-r.invariant
          (w.in_ok-row_with_cell.ensures ∙ ap (λ xs. insert xs c.args.at c.index-line-r.result) w.as_slice.ensures.value)
          (ap (λ x. x.items) w.grown-is ∙ w.in_ok-push.ensures.items)
      | in_default w ↦
          let past : length c.args.table.now.items ≤ r = omega (arith, w.in_default.ensures.lookup.3, ap length on) in
          put-past (λ l. l.items) c.args.at c.args.line.now c.args.table.now.items _ r past (ap (λ x. map (λ l. l.items) x.items) w.grown-is ∙ c.loop-r.invariant)
    ]
