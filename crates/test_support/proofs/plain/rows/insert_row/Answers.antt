use Rattle.std.proofs.Common.{◌∙◌, ap, take, drop}
use Rattle.test_support.proofs.PlainLemmas.{row-put}
use Rattle.test_support.proofs.plain.rows.insert_row.Goals as goal

pub returns : goal.returns
returns g c =
    row-put (λ l. l.items) c.args.at c.args.table.now.items _ _ _ _ _ _ _ _
    (c.before-2.ensures ∙ ap (take c.args.at) c.as_slice.ensures.value)
    (c.from.ensures ∙ ap (drop c.args.at) c.as_slice-2.ensures.value)
    c.new-grown.ensures.items c.in_ok-push_copies.ensures c.in_ok-from_slice.ensures.items c.in_ok-push.ensures.items c.in_ok-push_copies-2.ensures
