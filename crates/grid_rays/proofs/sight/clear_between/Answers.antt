use Rattle.std.proofs.Common.{ℕ, true, arith, ◌∙◌}
use Rattle.grid_base.specs.Table.{row_count, col_count}
use Rattle.grid.specs.Prelude.{AnswersAt}
use Rattle.grid_rays.proofs.SightLemmas.{IsDrawn-next, IsLooking-next, IsBetween-here, in_view, IsSeen-end}
use Rattle.grid_rays.proofs.sight.clear_between.Goals as goal

pub get_unchecked-requires : goal.get_unchecked-requires
get_unchecked-requires g c =
    let a = c.args.from in
    let b = c.args.to in
    let at : ℕ × ℕ = (c.stepped-rows.result.at, c.stepped-cols.result.at) in
    let past : ℕ × ℕ = (c.stepped-rows.result.past, c.stepped-cols.result.past) in
    let now = c.loop-done.invariant in
    let drawn = (IsDrawn-next a b (c.loop-done.rows.from, c.loop-done.cols.from) (c.loop-done.rows.to, c.loop-done.cols.to) at past c.loop-done.done c.steps_between-steps.result now.0 now.1 now.2 now.3 c.steps_between-steps.ensures c.steps_between-steps.type_inv (omega (arith, c.loop-done-test.true, c.saturating_sub-done-end.ensures)) c.stepped-rows.ensures.reached c.stepped-cols.ensures.reached) in
    in_view a b at past _ _ drawn (row_count c.args.board.now.rows) (col_count c.args.board.now.rows) (c.contains.ensures.0 c.if-not-contains.false) (c.contains-else-not-contains.ensures.0 c.if-not-contains-2.false)

pub is_clear-requires : goal.is_clear-requires
is_clear-requires g c =
    let a = c.args.from in
    let b = c.args.to in
    let at : ℕ × ℕ = (c.stepped-rows.result.at, c.stepped-cols.result.at) in
    let past : ℕ × ℕ = (c.stepped-rows.result.past, c.stepped-cols.result.past) in
    let now = c.loop-done.invariant in
    let drawn = (IsDrawn-next a b (c.loop-done.rows.from, c.loop-done.cols.from) (c.loop-done.rows.to, c.loop-done.cols.to) at past c.loop-done.done c.steps_between-steps.result now.0 now.1 now.2 now.3 c.steps_between-steps.ensures c.steps_between-steps.type_inv (omega (arith, c.loop-done-test.true, c.saturating_sub-done-end.ensures)) c.stepped-rows.ensures.reached c.stepped-cols.ensures.reached) in
    c.requires at.0 at.1 c.get_unchecked.result (in_view a b at past _ _ drawn (row_count c.args.board.now.rows) (col_count c.args.board.now.rows) (c.contains.ensures.0 c.if-not-contains.false) (c.contains-else-not-contains.ensures.0 c.if-not-contains-2.false)) c.get_unchecked.ensures

pub returns-then-not-is_clear : goal.returns-then-not-is_clear
returns-then-not-is_clear g c =
    let a = c.args.from in
    let b = c.args.to in
    let at : ℕ × ℕ = (c.stepped-rows.result.at, c.stepped-cols.result.at) in
    let past : ℕ × ℕ = (c.stepped-rows.result.past, c.stepped-cols.result.past) in
    let now = c.loop-done.invariant in
    let drawn = (IsDrawn-next a b (c.loop-done.rows.from, c.loop-done.cols.from) (c.loop-done.rows.to, c.loop-done.cols.to) at past c.loop-done.done c.steps_between-steps.result now.0 now.1 now.2 now.3 c.steps_between-steps.ensures c.steps_between-steps.type_inv (omega (arith, c.loop-done-test.true, c.saturating_sub-done-end.ensures)) c.stepped-rows.ensures.reached c.stepped-cols.ensures.reached) in
    record { by = λ _ _. (at, IsBetween-here a b at past _ _ drawn (omega arith) (omega (arith, c.loop-done-test.true, c.saturating_sub-done-end.ensures)), (c.get_unchecked.result, c.get_unchecked.ensures, c.if-not-is_clear.ensures)) }

pub loop-done-preserved : goal.loop-done-preserved
loop-done-preserved g c =
    let a = c.args.from in
    let b = c.args.to in
    let at : ℕ × ℕ = (c.stepped-rows.result.at, c.stepped-cols.result.at) in
    let past : ℕ × ℕ = (c.stepped-rows.result.past, c.stepped-cols.result.past) in
    let now = c.loop-done.invariant in
    let drawn = (IsDrawn-next a b (c.loop-done.rows.from, c.loop-done.cols.from) (c.loop-done.rows.to, c.loop-done.cols.to) at past c.loop-done.done c.steps_between-steps.result now.0 now.1 now.2 now.3 c.steps_between-steps.ensures c.steps_between-steps.type_inv (omega (arith, c.loop-done-test.true, c.saturating_sub-done-end.ensures)) c.stepped-rows.ensures.reached c.stepped-cols.ensures.reached) in (
      c.stepped-rows.ensures.from ∙ now.0,
      c.stepped-rows.ensures.to ∙ now.1,
      c.stepped-cols.ensures.from ∙ now.2,
      c.stepped-cols.ensures.to ∙ now.3,
      IsLooking-next (λ at. AnswersAt (goal.F-post g) c.args.is_clear.now c.args.board.now.rows at true) a b at past c.loop-done.done _ drawn now.4.clear (c.get_unchecked.result, c.get_unchecked.ensures, c.if-not-is_clear.ensures),
    )

pub returns : goal.returns
returns g c =
    let now = c.loop-done.invariant in
    IsSeen-end (λ at. AnswersAt (goal.F-post g) c.args.is_clear.now c.args.board.now.rows at true) c.args.from c.args.to c.args.board.now.rows _ _ _ _ now.4 (omega (arith, c.loop-done-test.false, c.saturating_sub-done-end.ensures)) (c.contains.ensures.0 c.if-not-contains.false) (c.contains-else-not-contains.ensures.0 c.if-not-contains-2.false)
