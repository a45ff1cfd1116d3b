use Rattle.std.proofs.Common.{◌<◌, ◌∙◌, ap, arith, length, get_or, replicate}
use Rattle.test_support.proofs.PlainLemmas.{fill-grown}
use Rattle.test_support.proofs.plain.cells.filled.Goals as goal

pub loop-row-preserved : goal.loop-row-preserved
loop-row-preserved g c =
    let on = c.deref-row-items.ensures.value in
    let i = c.loop-row.row-index in
    let v = c.row-item.result in
    let lt : i < length c.args.table.now.items = omega (arith, c.loop-row-test.true, ap length on) in
    fill-grown (λ l. l.items) c.args.value c.args.table.now.items _ _ i v _ lt (c.row-item.is ∙ ap (λ xs. get_or xs i v) on) c.loop-row.invariant (c.in_ok-blank_line.ensures ∙ ap (λ n. replicate n c.args.value) (c.len.ensures ∙ v.ok.0)) c.in_ok-push.ensures.items
