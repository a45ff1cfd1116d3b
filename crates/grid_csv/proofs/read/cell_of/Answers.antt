-- A field that is text, and one that is none.
use Rattle.std.proofs.Common.{◌≡◌, true, false, Result, Ok, Err, Option, refl, IfOk, ℕ, List, Bor}
use Rattle.grid_csv.proofs.Common.{is_utf8, false_from_ne_true, IsUtf8-from_is_utf8, is_utf8-from_IsUtf8, AnswersField}
use Rattle.std.specs.declared.alloc.AllocError.{AllocError}
use Rattle.grid_csv.proofs.read.cell_of.Goals as goal

answered : {F T : Type 0} (returns : F → Bor (List ℕ) → Result (Option T) AllocError → Type 0) (read : F) (field : List ℕ) (text : Bor (List ℕ)) (r : Result (Option T) AllocError) → is_utf8 field ≡ true → text.now ≡ field → returns read text r → IfOk r (λ cell. AnswersField returns read field cell)
answered returns read field text (Ok cell) utf8 is gave = rw utf8 (text, is, gave)
answered returns read field text (Err e) utf8 is gave = tt

pub returns-in-Ok : goal.returns-in-Ok
returns-in-Ok g c =
    let e = c.in-Ok.ensures.cases in
    answered (goal.F-post g) c.args.read.now _ _ _ (is_utf8-from_IsUtf8 _ e.1) e.0 c.read.ensures

pub returns-in-Err : goal.returns-in-Err
returns-in-Err g c =
    let no : is_utf8 c.args.field.now ≡ false = false_from_ne_true _ (λ e. c.in-Err.ensures.cases.0 (IsUtf8-from_is_utf8 _ e)) in
    rw no refl
