-- One character more: a cell, or the first that is none.
use Rattle.std.proofs.Common.{inr, ap, chars, ◌≡◌, ◌∙◌, arith, rules}
use Rattle.std.specs.Str.Iter.{chars_rest}
use Rattle.grid_text.proofs.Common.{nil_from_length, chars-nil, chars_past_char, IsUtf8-past_char}
use Rattle.grid_text.proofs.Lemmas.{first_scalar, past_char, line_start, line_more, line_bad, line_end}
use Rattle.grid_text.proofs.read.CharsPieces.read.Goals as goal

pub loop-found-init : goal.loop-found-init
loop-found-init g c =
    let whole : chars_rest c.into_iter-found-iterator.result ≡ c.args.text.now = search rules in
    record { utf8 = rw whole c.utf8.text; fits = rw whole (omega arith); cells = line_start _ _ _ _ _ _ (ap chars whole) }

pub overflow_add-column : goal.overflow_add-column
overflow_add-column g c = let more = past_char _ _ _ _ _ c.loop-found.invariant.fits c.in-Some.ensures.steps.0 in omega arith

pub loop-found-preserved : goal.loop-found-preserved
loop-found-preserved g c =
    let i = c.loop-found.invariant in
    let next = c.in-Some.ensures.steps.0 in
    record {
      utf8 = IsUtf8-past_char _ _ _ i.utf8 next;
      fits = past_char _ _ _ _ _ i.fits next;
      cells = line_more _ _ _ _ _ _ _ _ _ _ i.cells (chars_past_char _ _ _ i.utf8 next) _ _ (first_scalar _ _ _ i.utf8 next, c.in-Some-read.ensures) c.in_ok-push-in-Some-read.ensures.pushed;
    }

pub returns-in-None-read : goal.returns-in-None-read
returns-in-None-read g c =
    let i = c.loop-found.invariant in
    let next = c.in-Some.ensures.steps.0 in
    inr (line_bad _ _ _ _ _ _ _ _ _ _ i.cells (chars_past_char _ _ _ i.utf8 next) (first_scalar _ _ _ i.utf8 next, c.in-None-read.ensures))

pub returns : goal.returns
returns g c = line_end _ _ _ _ _ _ _ _ _ c.loop-found.invariant.cells (ap chars (nil_from_length _ c.in-None.ensures.steps.0.0) ∙ chars-nil)
