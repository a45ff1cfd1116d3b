-- What is pending after a command, and what a carried command rests on.
use Rattle.std.proofs.Common.{◌≡◌, List, [], ◌∷◌, Bool, true, false, refl, sym, ◌∙◌, ap, Some, IsTrue, ℕ, Result, Ok, Err, OnOk}
use Rattle.grid_deferred.proofs.Common.{row_count, col_count, cell, IsTable, saturating_count, act, IsThen, CommandValue, Edit, command_value, size, get, lines, apply, axis_of, read, pop, ReplyValue, done, in_range, step_rows, step_reply, takes_memory, RowsAreKnown, EditIsKnown, ReplyIsKnown, EditReplyIsKnown, command_symmetry, step_shift, product, then_is, act-act, symmetry_of-product_from, identity_product, product_identity, cell_past, turned_reply, edit_of_flipped, edit_of_reversed, transposed_command, flipped_command, shift_through, CarriesAt, is_apply, carried, pending_after}
use Rattle.grid_base.specs.declared.words.Symmetry.{Symmetry}
use Rattle.grid_base.specs.declared.words.Symmetry.TheVariants.{Identity, FlipCols, FlipRows, RotateHalf, Transpose, RotateLeft, RotateRight, AntiTranspose}
use Rattle.grid_base.specs.declared.order.Order.{Order}
use Rattle.grid_commands.specs.declared.command.Axis.{Axis}
use Rattle.grid_commands.specs.declared.command.Axis.TheVariants.{Row, Col}
use Rattle.grid_commands.specs.declared.command.Command.{Command}
use Rattle.grid_commands.specs.declared.command.Command.TheVariants.{Apply, Size}
use Rattle.grid_deferred.proofs.CarryLemmas.{carries, applies}

-- a fact that holds anyway, where there is an outcome
pub always_ok : {V E : Type 0} (r : Result V E) {P : Type 0} → P → OnOk r P
always_ok (Ok v) p = p
always_ok (Err e) p = tt

module _ {T : Type 0} where
  pub pending-product : (y : CommandValue T) (s : Symmetry) → pending_after y s ≡ product s (command_symmetry y)
  pending-product y s = symmetry_of-product_from (s ∷ command_symmetry y ∷ []) ∙ ap (λ x. product x (command_symmetry y)) (identity_product s)

  -- a command that isn't an Apply has no symmetry
  no_symmetry : (y : CommandValue T) → is_apply y ≡ false → command_symmetry y ≡ Identity
  no_symmetry (apply s) h = absurd (cc h)
  no_symmetry size h = refl
  no_symmetry y h = refl

  pub pending-still : (y : CommandValue T) (s : Symmetry) → is_apply y ≡ false → s ≡ pending_after y s
  pending-still y s e = sym (pending-product y s ∙ (ap (product s) (no_symmetry y e) ∙ product_identity s))

  pub carried_still : (s : Symmetry) (m n : ℕ) (x y : CommandValue T) → is_apply y ≡ false → x ≡ carried s m n y → command_symmetry x ≡ Identity
  carried_still s m n x y h e = no_symmetry x (ap is_apply e ∙ (applies s m n y ∙ h))

  pub shown-then : (d : T) (s u v : Symmetry) (t : List (List T)) → IsThen s u v → IsTable t → act v t ≡ step_rows d (apply u) (act s t)
  unfolding step_rows
  shown-then d s u v t h table = ap (λ x. act x t) (then_is s u v h) ∙ sym (act-act s u t table)

  -- a cell that is there is in range
  pub in_range_some : (t : List (List T)) → IsTable t → (r c : ℕ) (v : T) → cell t r c ≡ Some v → IsTrue (in_range (row_count t) (col_count t) (r, c))
  in_range_some t h r c v e = by (in_range (row_count t) (col_count t) (r, c)) refl
    where
      by : (b : Bool) → in_range (row_count t) (col_count t) (r, c) ≡ b → IsTrue b
      by true k = refl
      by false k = absurd (cc (cell_past t h r c k, e))

  -- a read leaves the table and what is pending
  pub get-rows : (d : T) (r c : ℕ) (t : List (List T)) → t ≡ step_rows d (get r c) t
  unfolding step_rows
  get-rows d r c t = refl

  pub none_applied : (y : CommandValue T) → is_apply y ≡ false → (u : Symmetry) → y ≡ apply u → ⊥
  none_applied y h u e = absurd (cc (h, ap is_apply e))

  pub reply-then : (u : Symmetry) (t : List (List T)) → ◌≡◌ {A = ReplyValue T} done (step_reply (apply u) t)
  unfolding step_reply
  reply-then u t = refl

pub pending-then : (T : Type 0) (s u v : Symmetry) → IsThen s u v → v ≡ pending_after {T = T} (apply u) s
pending-then T s u v h = then_is s u v h ∙ sym (pending-product {T = T} (apply u) s)

-- a command that isn't an Apply
pub applies-none : {T A : Type 0} (x : Command T A) → ((u : Symmetry) → x ≡ Apply u → ⊥) → is_apply (command_value x) ≡ false
applies-none (Apply u) h = absurd (h u refl)
applies-none Size h = refl
applies-none x h = refl

-- the same premises are enough for the carried command
module _ {T : Type 0} (is_default : T → Type 0) (is_clone : T → T → Type 0) (d : T) where
  known-transposed : (y : CommandValue T) → RowsAreKnown is_default is_clone d y → RowsAreKnown is_default is_clone d (transposed_command y)
  known-transposed size h = h
  known-transposed y h = h

  edit-flipped : (m : ℕ) (e : Edit T) → EditIsKnown is_default d e → EditIsKnown is_default d (edit_of_flipped m e)
  edit-flipped m pop h = h
  edit-flipped m e h = h

  edit-reversed : (e : Edit T) → EditIsKnown is_default d e → EditIsKnown is_default d (edit_of_reversed e)
  edit-reversed pop h = h
  edit-reversed e h = h

  known-flipped : (m : ℕ) (y : CommandValue T) → RowsAreKnown is_default is_clone d y → RowsAreKnown is_default is_clone d (flipped_command m y)
  known-flipped m (lines Row e) h = edit-flipped m e h
  known-flipped m (lines Col e) h = edit-reversed e h
  known-flipped m size h = h
  known-flipped m y h = h

  pub known-carried : (s : Symmetry) (m n : ℕ) (y : CommandValue T) → RowsAreKnown is_default is_clone d y → RowsAreKnown is_default is_clone d (carried s m n y)
  known-carried Identity m n y h = h
  known-carried Transpose m n y h = known-transposed y h
  known-carried FlipRows m n y h = known-flipped m y h
  known-carried RotateLeft m n y h = known-transposed _ (known-flipped n y h)
  known-carried RotateRight m n y h = known-flipped m _ (known-transposed y h)
  known-carried FlipCols m n y h = known-transposed _ (known-flipped n _ (known-transposed y h))
  known-carried AntiTranspose m n y h = known-flipped m _ (known-transposed _ (known-flipped n y h))
  known-carried RotateHalf m n y h = known-transposed _ (known-flipped n _ (known-transposed _ (known-flipped m y h)))

  pub carried_known : (s : Symmetry) (m n : ℕ) (x y : CommandValue T) → x ≡ carried s m n y → RowsAreKnown is_default is_clone d y → RowsAreKnown is_default is_clone d x
  carried_known s m n x y e h = rw e (known-carried s m n y h)

-- and for its reply
module _ {T : Type 0} (is_clone : T → T → Type 0) where
  reply-transposed : (y : CommandValue T) → ReplyIsKnown is_clone y → ReplyIsKnown is_clone (transposed_command y)
  reply-transposed size h = h
  reply-transposed y h = h

  reply_of_flipped : (m : ℕ) (e : Edit T) → EditReplyIsKnown is_clone e → EditReplyIsKnown is_clone (edit_of_flipped m e)
  reply_of_flipped m pop h = h
  reply_of_flipped m e h = h

  reply_of_reversed : (e : Edit T) → EditReplyIsKnown is_clone e → EditReplyIsKnown is_clone (edit_of_reversed e)
  reply_of_reversed pop h = h
  reply_of_reversed e h = h

  reply-flipped : (m : ℕ) (y : CommandValue T) → ReplyIsKnown is_clone y → ReplyIsKnown is_clone (flipped_command m y)
  reply-flipped m (lines Row e) h = reply_of_flipped m e h
  reply-flipped m (lines Col e) h = reply_of_reversed e h
  reply-flipped m size h = h
  reply-flipped m y h = h

  reply-carried : (s : Symmetry) (m n : ℕ) (y : CommandValue T) → ReplyIsKnown is_clone y → ReplyIsKnown is_clone (carried s m n y)
  reply-carried Identity m n y h = h
  reply-carried Transpose m n y h = reply-transposed y h
  reply-carried FlipRows m n y h = reply-flipped m y h
  reply-carried RotateLeft m n y h = reply-transposed _ (reply-flipped n y h)
  reply-carried RotateRight m n y h = reply-flipped m _ (reply-transposed y h)
  reply-carried FlipCols m n y h = reply-transposed _ (reply-flipped n _ (reply-transposed y h))
  reply-carried AntiTranspose m n y h = reply-flipped m _ (reply-transposed _ (reply-flipped n y h))
  reply-carried RotateHalf m n y h = reply-transposed _ (reply-flipped n _ (reply-transposed _ (reply-flipped m y h)))

  pub carried_reply_known : (s : Symmetry) (m n : ℕ) (x y : CommandValue T) → x ≡ carried s m n y → ReplyIsKnown is_clone y → ReplyIsKnown is_clone x
  carried_reply_known s m n x y e h = rw e (reply-carried s m n y h)

-- what a carried command does, at a base of m rows and n columns
module _ {T : Type 0} (s : Symmetry) (m n : ℕ) (x y : CommandValue T) (t : List (List T)) (h : IsTable t) (rows : m ≡ row_count t) (cols : n ≡ col_count t) (is : x ≡ carried s m n y) where
  at_base : CarriesAt s x y t
  at_base = rw is ((carries s m n y).at t h (sym rows) (sym cols))

  pub through-rows : (d : T) (after : List (List T)) → after ≡ step_rows d x t → act s after ≡ step_rows d y (act s t)
  through-rows d after e = ap (act s) e ∙ sym (at_base.rows d)

  pub through-reply : (p q : ReplyValue T) (a : Axis) → a ≡ axis_of y → q ≡ turned_reply s a p → p ≡ step_reply x t → q ≡ step_reply y (act s t)
  through-reply p q a axis turn e = turn ∙ (ap (λ b. turned_reply s b p) axis ∙ (ap (turned_reply s (axis_of y)) e ∙ sym at_base.reply))

  pub through-shift : (o : Order) (before after : ℕ) → after ≡ saturating_count before (step_shift x o (row_count t) (col_count t)) → after ≡ saturating_count before (shift_through s y o (row_count t) (col_count t))
  through-shift o before after e =
      e ∙ ap (saturating_count before) (rw (← rows, ← cols) (ap (λ z. step_shift z o m n) is ∙ (carries s m n y).shifts o))

  pub through-memory : IsTrue (takes_memory x (row_count t) (col_count t)) → IsTrue (takes_memory y (row_count (act s t)) (col_count (act s t)))
  through-memory k = rw at_base.memory k
