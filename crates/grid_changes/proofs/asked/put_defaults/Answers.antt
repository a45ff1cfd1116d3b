use Rattle.std.proofs.Common.{◌≡◌, ◌<◌, ◌⊎◌, None, Some, if◌then◌else◌, true, false, refl, sym, ◌∙◌, arith, inl, inr, ⊎_elim}
use Rattle.grid.specs.Prelude.{line_count, line_width, row_count, col_count, pad_edit, pad_refusal, IsMade}
use Rattle.grid.proofs.LineEditLemmas.{pad_none}
use Rattle.grid_base.specs.declared.order.Order.TheVariants.{RowMajor}
use Rattle.grid_commands.specs.declared.command.Reply.TheVariants as the
use Rattle.grid_changes.proofs.AskedLemmas.{due_lines, refused_due, padded_none, padded_replied, pad_no_step, pad_step, defaults_fit, defaults_rows}
use Rattle.grid_changes.proofs.asked.put_defaults.Goals.{then-at_end, else-at_end}
use Rattle.grid_changes.proofs.asked.put_defaults.Goals as goal

pub returns-in-Some-clause-asked : goal.returns-in-Some-clause-asked
returns-in-Some-clause-asked g c =
    let t = c.args.grid.now.rows in
    let some : pad_refusal (line_count c.args.axis (row_count t) (col_count t)) (line_width c.args.axis (row_count t) (col_count t)) c.args.more ≡ Some c.in-Some.refusal =
    rw (← c.measure-count.ensures.count, ← c.measure-count.ensures.width, ← c.pad_refusal.ensures) c.in-Some.is in
    refused_due _ _ c.args.axis (pad_edit c.args.at_end c.args.more) _ c.in-Some.refusal (pad_none _ c.args.at_end _ _ c.args.more ∙ some)

pub returns-then-count-eq0-clause-asked : goal.returns-then-count-eq0-clause-asked
returns-then-count-eq0-clause-asked g c =
    let t = c.args.grid.now.rows in
    let table = c.args.grid.now.table in
    let none : pad_refusal (line_count c.args.axis (row_count t) (col_count t)) (line_width c.args.axis (row_count t) (col_count t)) c.args.more ≡ None =
    rw (← c.measure-count.ensures.count, ← c.measure-count.ensures.width, ← c.pad_refusal.ensures) c.in_default.is in
    let either : (line_count c.args.axis (row_count t) (col_count t) ≡ 0) ⊎ (c.args.more ≡ 0) = ⊎_elim (λ z. inl (sym c.measure-count.ensures.count ∙ z)) (λ p. inr p.1) c.then-count-eq0.either in
    due_lines _ _ c.args.axis (pad_edit c.args.at_end c.args.more) _ _ the.Done false refl
    (λ d known. padded_none d c.args.axis c.args.at_end c.args.more t table none either)
    (λ same. padded_replied c.args.axis c.args.at_end c.args.more t table none)
    (pad_no_step c.args.axis c.args.at_end c.args.more t either)

pub returns-in-Ok-clause-asked : goal.returns-in-Ok-clause-asked
returns-in-Ok-clause-asked g c =
    let t = c.args.grid.now.rows in
    let table = c.args.grid.now.table in
    let none : pad_refusal (line_count c.args.axis (row_count t) (col_count t)) (line_width c.args.axis (row_count t) (col_count t)) c.args.more ≡ None =
    rw (← c.measure-count.ensures.count, ← c.measure-count.ensures.width, ← c.pad_refusal.ensures) c.in_default.is in
    let some : 0 < line_count c.args.axis (row_count t) (col_count t) = omega (arith, c.if-count-eq0.false, c.measure-count.ensures.count) in
    let more : 0 < c.args.more = omega (arith, c.if-more-eq0.false) in
    let place : c.if-at_end.at ≡ (if c.args.at_end then line_count c.args.axis (row_count t) (col_count t) else 0) =
    elim c.if-at_end.branch [
      | then-at_end w ↦ rw w.if-at_end.true (w.at-is ∙ c.measure-count.ensures.count)
      | else-at_end w ↦ rw w.if-at_end.false w.at-is
    ] in
    let made : IsMade RowMajor c.args.more (line_width c.args.axis (row_count t) (col_count t)) c.in-Ok.lines = rw (← c.measure-count.ensures.width) c.in-Ok.ensures.made in (
      defaults_fit _ c.args.axis c.args.at_end c.if-at_end.at c.args.more t c.in-Ok.lines table some more none place made c.in-Ok.ensures.defaults,
      due_lines _ _ c.args.axis (pad_edit c.args.at_end c.args.more) _ _ the.Done true refl
          (λ d known. defaults_rows _ c.args.axis c.args.at_end c.if-at_end.at c.args.more t c.in-Ok.lines table some more none place made c.in-Ok.ensures.defaults d known)
          (λ same. padded_replied c.args.axis c.args.at_end c.args.more t table none)
          (pad_step c.args.axis c.args.at_end c.args.more t some more none),
    )
