-- One word more: a cell, or the first that is none.
use Rattle.std.proofs.Common.{inr, Ok, Some, None, subst, ap, ◌∙◌, ◌≡◌, ◌+◌, ◌≤◌, length, refl, arith, rules}
use Rattle.grid_text.proofs.Common.{words_of, words_fit}
use Rattle.grid_text.proofs.Lemmas.{line_start, line_room, line_more, line_bad, line_end}
use Rattle.grid_text.proofs.read.TriedPieces.read.Goals as goal

pub loop-found-init : goal.loop-found-init
loop-found-init g c =
    let whole : words_of c.into_iter-found-iterator.result.0.now ≡ words_of c.args.text.now = search rules in
    line_start _ _ _ _ _ _ whole

pub overflow_add-word : goal.overflow_add-word
overflow_add-word g c =
    let more : c.loop-found.word + 1 ≤ length (words_of c.args.text.now) = line_room _ _ _ _ _ _ _ _ _ _ c.loop-found.invariant c.in-Some.ensures.steps in
    omega (arith, words_fit c.args.text.now)

pub loop-found-preserved : goal.loop-found-preserved
loop-found-preserved g c =
    let said : goal.F-post g c.args.self.now.0 c.in-Some.found (Ok (Some c.in-Some-2.cell)) = subst (goal.F-post g c.args.self.now.0 c.in-Some.found) (c.in_ok-cell.was ∙ ap Ok c.in-Some-2.is) c.read.ensures in
    line_more _ _ _ _ _ _ _ _ _ _ c.loop-found.invariant c.in-Some.ensures.steps _ _ (_, refl, said) c.in_ok-push-in-Some-2.ensures.pushed

pub returns-in-None-2 : goal.returns-in-None-2
returns-in-None-2 g c =
    let said : goal.F-post g c.args.self.now.0 c.in-Some.found (Ok None) = subst (goal.F-post g c.args.self.now.0 c.in-Some.found) (c.in_ok-cell.was ∙ ap Ok c.in-None-2.is) c.read.ensures in
    inr (line_bad _ _ _ _ _ _ _ _ _ _ c.loop-found.invariant c.in-Some.ensures.steps (_, refl, said))

pub returns : goal.returns
returns g c = line_end _ _ _ _ _ _ _ _ _ c.loop-found.invariant c.in-None.ensures.steps.0
