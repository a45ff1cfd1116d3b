use Rattle.std.proofs.Common.{◌≤◌, ◌+◌, ◌↔◌, IsTrue, true, false, refl, arith, inl, inr, ⊎_elim}
use Rattle.grid.specs.Prelude.{delete_range, line_count, row_count, col_count}
use Rattle.grid_commands.specs.declared.command.Reply.TheVariants as the
use Rattle.grid_changes.proofs.AskedLemmas.{due_lines, rows-lines, range_replied, range_taken, range_still, range_step, range_no_step}
use Rattle.grid_changes.proofs.asked.drop_lines.Goals as goal

pub returns-then-not-found : goal.returns-then-not-found
returns-then-not-found g c =
    let t = c.args.grid.now.rows in
    let table = c.args.grid.now.table in
    let found = c.has_lines-found.result in
    let is : IsTrue found ↔ (c.args.start + c.args.several ≤ line_count c.args.axis (row_count t) (col_count t)) =
    (λ e. omega (arith, c.has_lines-found.ensures.0 e, c.measure-count.ensures.count), λ le. c.has_lines-found.ensures.1 (omega (arith, le, c.measure-count.ensures.count))) in
    let none = ⊎_elim (λ e. inl e) (λ p. inr p.1) c.then-not-found.either in
    due_lines _ _ c.args.axis (delete_range c.args.start c.args.several) _ _ (the.Flag found) false refl
    (λ d known. range_still d c.args.axis c.args.start c.args.several t table found is none)
    (λ same. range_replied c.args.axis c.args.start c.args.several t table found is)
    (range_no_step c.args.axis c.args.start c.args.several t found is none)

pub returns : goal.returns
returns g c =
    let t = c.args.grid.now.rows in
    let table = c.args.grid.now.table in
    let le : c.args.start + c.args.several ≤ line_count c.args.axis (row_count t) (col_count t) = omega (arith, c.has_lines-found.ensures.0 c.if-not-found.false, c.measure-count.ensures.count) in (
      record { some = omega (arith, c.if-several-eq0.false); within = omega (arith, rows-lines c.args.axis t, le) },
      due_lines _ _ c.args.axis (delete_range c.args.start c.args.several) _ _ (the.Flag true) true refl
          (λ d known. range_taken d c.args.axis c.args.start c.args.several t table le)
          (λ same. range_replied c.args.axis c.args.start c.args.several t table true (λ _. le, λ _. refl))
          (range_step c.args.axis c.args.start c.args.several t (omega (arith, c.if-several-eq0.false)) le),
    )
