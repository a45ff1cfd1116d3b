-- One field more.
use Rattle.std.proofs.Common.{◌≡◌, ◌∙◌, ◌++◌, [], ◌∷◌, ap, sym, refl}
use Rattle.grid_csv.proofs.Common.{fields_of, partial_of, AnswersCell}
use Rattle.grid_csv.proofs.Lemmas.{zip_next}
use Rattle.grid_csv.proofs.write.fill_record.Goals as goal

pub loop-cell-preserved : goal.loop-cell-preserved
loop-cell-preserved g c =
    let i = c.loop-cell.invariant in
    let push = c.in_ok-push_field.ensures in
    let said = rw c.in_ok-write.was at c.write.ensures in
    let wrote : AnswersCell (goal.F-post g) c.args.write.now c.in-Some.cell.now c.as_bytes.result.now =
    record { cell = _; old = _; new = _; is_cell = refl; is_empty = c.clear-in-loop-cell.ensures.bytes; is_field = sym c.as_bytes.ensures.value; appends = said } in
    let field : partial_of c.loop-cell.fields ++ c.as_bytes.result.now ≡ c.as_bytes.result.now = ap (λ xs. xs ++ c.as_bytes.result.now) i.partial in
    let added : fields_of c.push_field.new.self ≡ fields_of c.loop-cell.fields ++ c.as_bytes.result.now ∷ [] = push.fields ∙ ap (λ x. fields_of c.loop-cell.fields ++ x ∷ []) field in
    record {
      partial = push.partial;
      cells = rw added (zip_next (AnswersCell (goal.F-post g) c.args.write.now) _ _ _ i.cells _ _ _ c.in-Some.ensures.steps wrote);
    }
