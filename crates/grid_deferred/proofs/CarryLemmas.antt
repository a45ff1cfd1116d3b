-- Commands through words of the flip of the rows and the transpose.
use Rattle.std.proofs.Common.{◌≡◌, ℕ, Bool, true, false, not, Option, Some, None, List, reverse, refl, sym, ◌∙◌, ap, subst, option_map}
use Rattle.grid_deferred.proofs.Common.{beq, reverse-reverse, row_count, col_count, IsTable, act, image_rows, image_cols, CommandValue, size, lines, read, push, axis_of, ReplyValue, done, size_is, line_is, step_rows, step_reply, takes_memory, step_shift, rows-act, IsTable-act, product, act-act, act-identity, other_axis, reverses_cells, base_axis, reversed_if, turned_reply, transposed_command, flipped_command, shift_through, Carries, is_apply, carried}
use Rattle.grid_base.specs.declared.words.Symmetry.{Symmetry}
use Rattle.grid_base.specs.declared.words.Symmetry.TheVariants.{Identity, FlipCols, FlipRows, RotateHalf, Transpose, RotateLeft, RotateRight, AntiTranspose}
use Rattle.grid_base.specs.declared.order.Order.{Order}
use Rattle.grid_commands.specs.declared.command.Axis.{Axis}
use Rattle.grid_commands.specs.declared.command.Axis.TheVariants.{Row, Col}
use Rattle.grid_deferred.proofs.StepThroughLemmas.{IsAxis, IsAxis-axis_of, Through, through_flip, through_cross, table-step}

module _ {T : Type 0} where
  option-twice : (x : Option (List T)) → option_map reverse (option_map reverse x) ≡ x
  option-twice None = refl
  option-twice (Some l) = ap (λ v. Some v) (reverse-reverse l)

  reversed-twice : (b c : Bool) (x : Option (List T)) → reversed_if b (reversed_if c x) ≡ reversed_if (not (beq c b)) x
  reversed-twice true true x = option-twice x
  reversed-twice true false x = refl
  reversed-twice false true x = refl
  reversed-twice false false x = refl

-- the diagonal is named so that the last line is checked at each of the other pairs
reverses-product : (s u : Symmetry) (a : Axis) → reverses_cells (product s u) a ≡ not (beq (reverses_cells s (base_axis u a)) (reverses_cells u a))
reverses-product Identity Identity Row = refl
reverses-product Identity Identity Col = refl
reverses-product FlipCols FlipCols Row = refl
reverses-product FlipCols FlipCols Col = refl
reverses-product FlipRows FlipRows Row = refl
reverses-product FlipRows FlipRows Col = refl
reverses-product RotateHalf RotateHalf Row = refl
reverses-product RotateHalf RotateHalf Col = refl
reverses-product Transpose Transpose Row = refl
reverses-product Transpose Transpose Col = refl
reverses-product RotateLeft RotateLeft Row = refl
reverses-product RotateLeft RotateLeft Col = refl
reverses-product RotateRight RotateRight Row = refl
reverses-product RotateRight RotateRight Col = refl
reverses-product AntiTranspose AntiTranspose Row = refl
reverses-product AntiTranspose AntiTranspose Col = refl
reverses-product s u Row = refl
reverses-product s u Col = refl

size-product : (s u : Symmetry) (m n : ℕ) → (image_rows u (image_rows s m n) (image_cols s m n) ≡ image_rows (product s u) m n) × (image_cols u (image_rows s m n) (image_cols s m n) ≡ image_cols (product s u) m n)
size-product Identity Identity m n = (refl, refl)
size-product FlipCols FlipCols m n = (refl, refl)
size-product FlipRows FlipRows m n = (refl, refl)
size-product RotateHalf RotateHalf m n = (refl, refl)
size-product Transpose Transpose m n = (refl, refl)
size-product RotateLeft RotateLeft m n = (refl, refl)
size-product RotateRight RotateRight m n = (refl, refl)
size-product AntiTranspose AntiTranspose m n = (refl, refl)
size-product s u m n = (refl, refl)

module _ {T : Type 0} where
  turned-product : (s u : Symmetry) (a : Axis) (q : ReplyValue T) → turned_reply u a (turned_reply s (base_axis u a) q) ≡ turned_reply (product s u) a q
  turned-product s u a (size_is m n) = let e = size-product s u m n in rw (e.0, e.1) refl
  turned-product s u a (line_is x) = ap line_is (reversed-twice (reverses_cells u a) (reverses_cells s (base_axis u a)) x ∙ ap (λ b. reversed_if b x) (sym (reverses-product s u a)))
  turned-product s u a done = refl
  turned-product s u a q = refl

  -- one symmetry after another
  pub through_both : (s u : Symmetry) (x mid y : CommandValue T) (t : List (List T)) → IsTable t → ((a : Axis) → IsAxis y a → IsAxis mid (base_axis u a)) → Through s x mid t → Through u mid y (act s t) → Through (product s u) x y t
  through_both s u x mid y t h axis p q =
      let e : act (product s u) t ≡ act u (act s t) = sym (act-act s u t h) in
      record {
        rows = λ d. ap (step_rows d y) e ∙ (q.rows d ∙ (ap (act u) (p.rows d) ∙ act-act s u (step_rows d x t) (table-step d x t h)));
        reply = λ a k.
            ap (step_reply y) e
            ∙ (q.reply a k ∙ (ap (turned_reply u a) (p.reply (base_axis u a) (axis a k)) ∙ turned-product s u a (step_reply x t)));
        memory = ap (λ v. takes_memory y (row_count v) (col_count v)) e ∙ (q.memory ∙ p.memory);
      }

  axis-flipped : (m : ℕ) (y : CommandValue T) (a : Axis) → IsAxis y a → IsAxis (flipped_command m y) a
  axis-flipped m (lines Row e) a k = k
  axis-flipped m (lines Col e) a k = k
  axis-flipped m size a k = tt
  axis-flipped m y a k = tt

  axis-exchanged : (y : CommandValue T) (a : Axis) → IsAxis y a → IsAxis (transposed_command y) (other_axis a)
  axis-exchanged (lines b e) a k = ap other_axis k
  axis-exchanged size a k = tt
  axis-exchanged y a k = tt

  -- by one generator more
  then_flip : (s : Symmetry) (m : ℕ) (x y : CommandValue T) (t : List (List T)) → IsTable t → row_count (act s t) ≡ m → Through s x (flipped_command m y) t → Through (product s FlipRows) x y t
  then_flip s m x y t h e p =
      through_both s FlipRows x (flipped_command m y) y t h (axis-flipped m y) p
      (subst (λ k. Through FlipRows (flipped_command k y) y (act s t)) e (through_flip y (act s t) (IsTable-act s t h)))

  then_cross : (s : Symmetry) (x y : CommandValue T) (t : List (List T)) → IsTable t → Through s x (transposed_command y) t → Through (product s Transpose) x y t
  then_cross s x y t h p =
      through_both s Transpose x (transposed_command y) y t h (axis-exchanged y) p (through_cross y (act s t) (IsTable-act s t h))

  reply-none : (a : Axis) (q : ReplyValue T) → turned_reply Identity a q ≡ q
  reply-none Row (size_is m n) = refl
  reply-none Col (size_is m n) = refl
  reply-none Row (line_is x) = refl
  reply-none Col (line_is x) = refl
  reply-none a done = refl
  reply-none a q = refl

  through_none : (y : CommandValue T) (t : List (List T)) → IsTable t → Through Identity y y t
  through_none y t h =
      let e = act-identity t h in
      record {
        rows = λ d. ap (step_rows d y) e ∙ sym (act-identity (step_rows d y t) (table-step d y t h));
        reply = λ a k. ap (step_reply y) e ∙ sym (reply-none a (step_reply y t));
        memory = ap (λ v. takes_memory y (row_count v) (col_count v)) e;
      }

  pub through : (s : Symmetry) (y : CommandValue T) (t : List (List T)) → IsTable t → Through s (carried s (row_count t) (col_count t) y) y t
  through Identity y t h = through_none y t h
  through Transpose y t h = through_cross y t h
  through FlipRows y t h = through_flip y t h
  through RotateLeft y t h = then_flip Transpose (col_count t) _ y t h (rows-act Transpose t) (through_cross (flipped_command (col_count t) y) t h)
  through RotateRight y t h = then_cross FlipRows _ y t h (through_flip (transposed_command y) t h)
  through FlipCols y t h =
      then_cross RotateLeft _ y t h
      (then_flip Transpose (col_count t) _ (transposed_command y) t h (rows-act Transpose t)
      (through_cross (flipped_command (col_count t) (transposed_command y)) t h))
  through AntiTranspose y t h =
      then_flip RotateRight (col_count t) _ y t h (rows-act RotateRight t)
      (then_cross FlipRows _ (flipped_command (col_count t) y) t h (through_flip (transposed_command (flipped_command (col_count t) y)) t h))
  through RotateHalf y t h =
      let z = flipped_command (row_count t) y in
      then_flip FlipCols (row_count t) _ y t h (rows-act FlipCols t)
      (then_cross RotateLeft _ z t h
      (then_flip Transpose (col_count t) _ (transposed_command z) t h (rows-act Transpose t)
      (through_cross (flipped_command (col_count t) (transposed_command z)) t h)))

  -- the step_shift
  pub shift-carried : (s : Symmetry) (y : CommandValue T) (o : Order) (m n : ℕ) → step_shift (carried s m n y) o m n ≡ shift_through s y o m n
  shift-carried Identity (lines Row (read i)) o m n = refl
  shift-carried s (lines Row (read i)) o m n = refl
  shift-carried s (lines Row (push line)) o m n = refl
  shift-carried s (lines Row e) o m n = refl
  shift-carried s (lines Col (read i)) o m n = refl
  shift-carried s (lines Col (push line)) o m n = refl
  shift-carried s (lines Col e) o m n = refl
  shift-carried s size o m n = refl
  shift-carried s y o m n = refl

  pub carries : (s : Symmetry) (m n : ℕ) (y : CommandValue T) → Carries s m n (carried s m n y) y
  carries s m n y =
      record {
        at = λ t h rows cols.
            let p = through s y t h in
            let q : Through s (carried s m n y) y t = subst (λ k. Through s (carried s m k y) y t) cols (subst (λ k. Through s (carried s k (col_count t) y) y t) rows p) in
            record { rows = q.rows; reply = q.reply (axis_of y) (IsAxis-axis_of y); memory = q.memory };
        shifts = λ o. shift-carried s y o m n;
      }

  applies-flipped : (m : ℕ) (y : CommandValue T) → is_apply (flipped_command m y) ≡ is_apply y
  applies-flipped m (lines Row e) = refl
  applies-flipped m (lines Col e) = refl
  applies-flipped m size = refl
  applies-flipped m y = refl

  applies-exchanged : (y : CommandValue T) → is_apply (transposed_command y) ≡ is_apply y
  applies-exchanged size = refl
  applies-exchanged y = refl

  -- a command is carried by an Apply exactly where it is one
  pub applies : (s : Symmetry) (m n : ℕ) (y : CommandValue T) → is_apply (carried s m n y) ≡ is_apply y
  applies Identity m n y = refl
  applies Transpose m n y = applies-exchanged y
  applies FlipRows m n y = applies-flipped m y
  applies RotateLeft m n y = applies-exchanged _ ∙ applies-flipped n y
  applies RotateRight m n y = applies-flipped m _ ∙ applies-exchanged y
  applies FlipCols m n y = applies-exchanged _ ∙ (applies-flipped n _ ∙ applies-exchanged y)
  applies AntiTranspose m n y = applies-flipped m _ ∙ (applies-exchanged _ ∙ applies-flipped n y)
  applies RotateHalf m n y = applies-exchanged _ ∙ (applies-flipped n _ ∙ (applies-exchanged _ ∙ applies-flipped m y))
