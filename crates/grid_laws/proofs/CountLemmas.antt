-- The counts of calls, which grow by the price of a symmetry, and by the shift of an edit.
use Rattle.std.proofs.Common.{◌≡◌, ℕ, List, Result, Ok, Err, OnOk, length, refl, sym, ◌∙◌, ap, subst}
use Rattle.grid_laws.proofs.Common.{GridValue, row_count, col_count, IsTable, Counts, saturating_count, storage, act, order_after, price, IsInverse, CommandValue, ReplyValue, command_symmetry, list_symmetry, step_shift, step_rows, IsTable-act, act-act, act-identity, inverse_is, inverse_left, settling_price, RanDeferred, rows_back, cols_back, HasDifferentCells, IsLeast, GrewByLeast, Shifts, filled_up}
use Rattle.grid_base.specs.declared.order.Order.{Order}
use Rattle.grid_base.specs.declared.words.Symmetry.{Symmetry}
use Rattle.grid_laws.proofs.ImageLemmas.{price_is_least, different_image}
use Rattle.grid_laws.proofs.EditLemmas.{shift_is_least, order_kept}

-- the price of a symmetry is what a count grew by
pub grew_by_price : {T : Type 0} (s : Symmetry) (t new : List (List T)) (o after_o : Order) (before after : ℕ) → IsTable t → HasDifferentCells t → new ≡ act s t → after_o ≡ order_after s o → after ≡ saturating_count before (price s (row_count t) (col_count t)) → GrewByLeast before after (storage o t) (storage after_o new)
grew_by_price s t new o after_o before after h d rows order grew =
    record {
      count = price s (row_count t) (col_count t);
      least = subst (λ ys. IsLeast (price s (row_count t) (col_count t)) (storage o t) ys)
          (sym (ap (λ x. storage x new) order ∙ ap (storage (order_after s o)) rows)) (price_is_least o t h d s);
      grew = grew;
    }

settling_is : {T : Type 0} (s : Symmetry) (t : List (List T)) → IsTable t → settling_price s (act s t) ≡ price s (row_count t) (col_count t)
settling_is s t h = rw (rows_back s t h, cols_back s t h) refl

-- the count of a deferred run
pub grew_deferred : {T : Type 0} (is_clone : T → T → Type 0) (is_default : T → Type 0) (commands : List (CommandValue T)) (old new : GridValue T) (before after : Counts) (answers : List (ReplyValue T)) → RanDeferred is_clone is_default commands old new before after answers → (v : Symmetry) → IsInverse (list_symmetry commands) v → HasDifferentCells new.rows → GrewByLeast before.symmetry after.symmetry (storage old.order (act v new.rows)) (storage new.order new.rows)
grew_deferred is_clone is_default commands old new before after answers r v i d =
    let s = list_symmetry commands in
    let base = act v new.rows in
    let h = IsTable-act v new.rows new.table in
    let rows : new.rows ≡ act s base = sym (act-act v s new.rows new.table ∙ (ap (λ x. act x new.rows) (inverse_left s v (inverse_is s v i)) ∙ act-identity new.rows new.table)) in
    grew_by_price s base new.rows old.order new.order before.symmetry after.symmetry h (different_image v new.rows new.table d) rows r.order
    (r.symmetry ∙ ap (saturating_count before.symmetry) (ap (settling_price s) rows ∙ settling_is s base h))

-- the count of a command that shifts
pub grew_by_shift : {T : Type 0} (d : T) (x : CommandValue T) (o after_o : Order) (t new : List (List T)) (before after : ℕ) → IsTable t → HasDifferentCells t → Shifts d t x → new ≡ step_rows d x t → after_o ≡ order_after (command_symmetry x) o → after ≡ saturating_count before (step_shift x o (row_count t) (col_count t)) → GrewByLeast before after (filled_up d (length (storage after_o new)) (storage o t)) (storage after_o new)
grew_by_shift d x o after_o t new before after h u shifts rows order grew =
    record {
      count = step_shift x o (row_count t) (col_count t);
      least = subst (λ ys. IsLeast (step_shift x o (row_count t) (col_count t)) (filled_up d (length ys) (storage o t)) ys)
          (sym (ap (λ z. storage z new) (order ∙ order_kept d t x o shifts) ∙ ap (storage o) rows)) (shift_is_least d o t h u x shifts);
      grew = grew;
    }

-- three facts of a result that is Ok give a fourth
pub on_ok3 : {V E : Type 0} (r : Result V E) {P Q R S : Type 0} → (P → Q → R → S) → OnOk r P → OnOk r Q → OnOk r R → OnOk r S
on_ok3 (Ok v) f p q r = f p q r
on_ok3 (Err e) f p q r = p
