-- A deferred run of one more command.
use Rattle.std.proofs.Common.{◌≡◌, ℕ, suc, ◌+◌, ◌/◌, ◌≤◌, List, [], ◌∷◌, ◌++◌, length, length-append, Some, Result, Ok, Err, IfOk, OnOk, refl, sym, ◌∙◌, ap, subst, arith, All}
use Rattle.grid_deferred.proofs.Common.{All-pop, GridValue, row_count, col_count, IsTable, Counts, saturating_count, ClonesAreEqual, act, order_after, price, half, image_rows, image_cols, CommandValue, ReplyValue, step_rows, step_reply, RowsAreKnown, ReplyIsKnown, AreDue, command_symmetry, list_symmetry, run_rows, run_replies, Ran, rows-act, cols-act, product, act-identity, price_within_half, due-more, run_rows-more, run_replies-more, list_symmetry-more, list_symmetry-none, saturating_count-none, count_more, shift_through, pending_after, settling_price, shown_shift, deferred_shift, RanDeferred}
use Rattle.grid_base.specs.declared.words.Symmetry.{Symmetry}
use Rattle.grid_base.specs.declared.words.Symmetry.TheVariants.{Identity}
use Rattle.grid_base.specs.declared.order.Order.{Order}
use Rattle.grid.proofs.KnownLemmas.{reply_known}
use Rattle.grid_deferred.proofs.PendingLemmas.{pending-product}
use Rattle.grid_deferred.proofs.AllowanceLemmas.{image_cells, run_within}

-- exchanging twice
size_back : (s : Symmetry) (m n : ℕ) → (image_rows s (image_rows s m n) (image_cols s m n) ≡ m) × (image_cols s (image_rows s m n) (image_cols s m n) ≡ n)
size_back Identity m n = (refl, refl)
size_back s m n = (refl, refl)

module _ {T : Type 0} where
  -- what is pending after a list of commands, one after another
  abbrev pub run_pending : List (CommandValue T) → Symmetry → Symmetry
  run_pending [] s = s
  run_pending (x ∷ xs) s = run_pending xs (pending_after x s)

  run_pending-more : (xs : List (CommandValue T)) (x : CommandValue T) (s : Symmetry) → run_pending (xs ++ x ∷ []) s ≡ pending_after x (run_pending xs s)
  run_pending-more [] x s = refl
  run_pending-more (y ∷ xs) x s = run_pending-more xs x (pending_after y s)

  deferred_shift-more : (d : T) (o : Order) (xs : List (CommandValue T)) (x : CommandValue T) (s : Symmetry) (t : List (List T)) → deferred_shift d o (xs ++ x ∷ []) s t ≡ deferred_shift d o xs s t + shown_shift (run_pending xs s) x o (run_rows d xs t)
  deferred_shift-more d o [] x s t = omega arith
  deferred_shift-more d o (y ∷ xs) x s t = omega (arith, deferred_shift-more d o xs x (pending_after y s) (step_rows d y t))

  -- the size of a base by that of its image
  pub rows_back : (s : Symmetry) (t : List (List T)) → IsTable t → image_rows s (row_count (act s t)) (col_count (act s t)) ≡ row_count t
  rows_back s t h = rw (rows-act s t, cols-act s t h) (size_back s (row_count t) (col_count t)).0

  pub cols_back : (s : Symmetry) (t : List (List T)) → IsTable t → image_cols s (row_count (act s t)) (col_count (act s t)) ≡ col_count t
  cols_back s t h = rw (rows-act s t, cols-act s t h) (size_back s (row_count t) (col_count t)).1

  shift_shown : (s : Symmetry) (x : CommandValue T) (o : Order) (t : List (List T)) → IsTable t → shift_through s x o (row_count t) (col_count t) ≡ shown_shift s x o (act s t)
  shift_shown s x o t h = rw (rows_back s t h, cols_back s t h) refl

  -- the rows and the shifts of a deferred run after these commands
  pub record GoingRows (d : T) (xs : List (CommandValue T)) (first base : GridValue T) (pending : Symmetry) (before after : ℕ) : Type 0 where
    pub rows : act pending base.rows ≡ run_rows d xs first.rows
    pub shift : after ≡ saturating_count before (deferred_shift d first.order xs Identity first.rows)

-- a deferred run after these commands: the base, what is pending and the replies
pub record Going {T : Type 0} (is_clone : T → T → Type 0) (is_default : T → Type 0) (xs : List (CommandValue T)) (first base : GridValue T) (pending : Symmetry) (before after : ℕ) (answers : List (ReplyValue T)) : Type 0 where
  pub table : IsTable base.rows
  pub order : base.order ≡ first.order
  pub pends : pending ≡ run_pending xs Identity
  pub joins : pending ≡ list_symmetry xs
  pub count : length answers ≡ length xs
  pub left : (d : T) → All (RowsAreKnown is_default is_clone d) xs → GoingRows d xs first base pending before after
  pub due : (d : T) → All (RowsAreKnown is_default is_clone d) xs → AreDue is_clone d xs first.rows answers
  pub replies : (d : T) → All (RowsAreKnown is_default is_clone d) xs → ClonesAreEqual is_clone → answers ≡ run_replies d xs first.rows

module _ {T : Type 0} (is_clone : T → T → Type 0) (is_default : T → Type 0) where
  pub going_none : (s : GridValue T) (n : ℕ) → IsTable s.rows → act Identity s.rows ≡ s.rows → Going is_clone is_default [] s s Identity n n []
  going_none s n h e = record {
    table = h;
    order = refl;
    pends = refl;
    joins = sym list_symmetry-none;
    count = refl;
    left = λ d known. record { rows = e; shift = saturating_count-none n };
    due = λ d known. tt;
    replies = λ d known same. refl;
  }

  module _ (xs : List (CommandValue T)) (x : CommandValue T) (first base next : GridValue T) (s u : Symmetry) (before between after : ℕ) (answers more : List (ReplyValue T)) (q : ReplyValue T) where
    pub going_more : Going is_clone is_default xs first base s before between answers → IsTable next.rows → next.order ≡ base.order → ((d : T) → RowsAreKnown is_default is_clone d x → act u next.rows ≡ step_rows d x (act s base.rows)) → u ≡ pending_after x s → after ≡ saturating_count between (shift_through s x base.order (row_count base.rows) (col_count base.rows)) → more ≡ answers ++ q ∷ [] → (ReplyIsKnown is_clone x → q ≡ step_reply x (act s base.rows)) → Going is_clone is_default (xs ++ x ∷ []) first next u before after more
    going_more g table order rows pends shift appended reply = record {
      table = table;
      order = order ∙ g.order;
      pends = pends ∙ (ap (pending_after x) g.pends ∙ sym (run_pending-more xs x Identity));
      joins = pends ∙ (pending-product x s ∙ (ap (λ p. product p (command_symmetry x)) g.joins ∙ sym (list_symmetry-more xs x)));
      count = omega (arith, ap length appended, length-append answers (q ∷ []), g.count, length-append xs (x ∷ []));
      left = λ d known. all_left d (All-pop (RowsAreKnown is_default is_clone d) (xs ++ x ∷ []) xs (Some x) refl known);
      due = λ d known.
          let before = (All-pop (RowsAreKnown is_default is_clone d) (xs ++ x ∷ []) xs (Some x) refl known).0 in
          rw appended (due-more is_clone d xs x first.rows answers q (g.due d before) g.count (λ k. reply k ∙ ap (step_reply x) (g.left d before).rows));
      replies = λ d known same.
          let before = (All-pop (RowsAreKnown is_default is_clone d) (xs ++ x ∷ []) xs (Some x) refl known).0 in
          let l = g.left d before in
          appended
          ∙ (ap (λ p. answers ++ p ∷ []) (reply (reply_known is_clone same x))
          ∙ (ap (λ rs. rs ++ step_reply x (act s base.rows) ∷ []) (g.replies d before same)
          ∙ (ap (λ t. run_replies d xs first.rows ++ step_reply x t ∷ []) l.rows ∙ sym (run_replies-more d xs x first.rows))));
    }
      where
        by : (d : T) → GoingRows d xs first base s before between → shift_through s x base.order (row_count base.rows) (col_count base.rows) ≡ shown_shift (run_pending xs Identity) x first.order (run_rows d xs first.rows)
        by d l =
            shift_shown s x base.order base.rows g.table
            ∙ (ap (λ o. shown_shift s x o (act s base.rows)) g.order
            ∙ (ap (λ t. shown_shift s x first.order t) l.rows ∙ ap (λ p. shown_shift p x first.order (run_rows d xs first.rows)) g.pends))

        all_left : (d : T) → All (RowsAreKnown is_default is_clone d) xs × RowsAreKnown is_default is_clone d x → GoingRows d (xs ++ x ∷ []) first next u before after
        all_left d known =
            let l = g.left d known.0 in
            record {
              rows = rows d known.1 ∙ (ap (step_rows d x) l.rows ∙ sym (run_rows-more d xs x first.rows));
              shift = count_more _ _ _ _ _ _ l.shift (shift ∙ ap (saturating_count between) (by d l)) (deferred_shift-more d first.order xs x Identity first.rows);
            }

  -- a command that changed nothing
  pub still_going : (xs : List (CommandValue T)) (first base next : GridValue T) (s u : Symmetry) (before between after : ℕ) (answers : List (ReplyValue T)) → Going is_clone is_default xs first base s before between answers → next ≡ base → u ≡ s → after ≡ between → Going is_clone is_default xs first next u before after answers
  still_going xs first base next s u before between after answers g e f k = rw (e, f, k) g

  -- settling ends a run
  module _ (xs : List (CommandValue T)) (first base last : GridValue T) (s : Symmetry) (before between after : Counts) (answers : List (ReplyValue T)) where
    pub settled : Going is_clone is_default xs first base s before.shift between.shift answers → between.symmetry ≡ before.symmetry → last.rows ≡ act s base.rows → last.order ≡ order_after s base.order → after.symmetry ≡ saturating_count between.symmetry (price s (row_count base.rows) (col_count base.rows)) → after.shift ≡ between.shift → RanDeferred is_clone is_default xs first last before after answers
    settled g none rows flips paid shift = record {
      count = g.count;
      order = flips ∙ (ap (order_after s) g.order ∙ ap (λ p. order_after p first.order) g.joins);
      symmetry = cost ∙ ap (λ p. saturating_count before.symmetry (settling_price p last.rows)) g.joins;
      half = omega (arith, cost, small);
      left = λ d known.
          let l = g.left d known in
          record { rows = rows ∙ l.rows; shift = shift ∙ l.shift; allowance = omega (arith, shift, l.shift, run_within d first.order xs Identity first.rows) };
      due = g.due;
      replies = g.replies;
    }
      where
        cost : after.symmetry ≡ saturating_count before.symmetry (settling_price s last.rows)
        cost =
            paid
            ∙ (ap (λ k. saturating_count k (price s (row_count base.rows) (col_count base.rows))) none
            ∙ rw (rows, rows_back s base.rows g.table, cols_back s base.rows g.table) refl)

        small : settling_price s last.rows ≤ half (row_count last.rows) (col_count last.rows)
        small =
            let m = image_rows s (row_count last.rows) (col_count last.rows) in
            let n = image_cols s (row_count last.rows) (col_count last.rows) in
            let h = price_within_half s m n in
            let same : half m n ≡ half (row_count last.rows) (col_count last.rows) = ap (λ k. k / 2) (image_cells s (row_count last.rows) (col_count last.rows)) in
            omega (arith, h, same)

  -- a run of no commands
  pub ran_none : (s : GridValue T) (t : Counts) → IsTable s.rows → RanDeferred is_clone is_default [] s s t t []
  ran_none s t h =
      let same = act-identity s.rows h in
      settled [] s s s Identity t t t [] (going_none s t.shift h same) refl (sym same) refl (saturating_count-none t.symmetry) refl

  -- a run at once and a deferred run of the same commands, on grids of the same rows
  module _ (xs ys : List (CommandValue T)) (old new other_old other_new : GridValue T) (first last other_first other_last : Counts) (answers others : List (ReplyValue T)) where
    pub agree_rows : Ran is_clone is_default xs old new first last answers → RanDeferred is_clone is_default ys other_old other_new other_first other_last others → old.rows ≡ other_old.rows → xs ≡ ys → (d : T) → All (RowsAreKnown is_default is_clone d) xs → new.rows ≡ other_new.rows
    agree_rows r q rows same d known =
        (r.left d known).rows ∙ (ap (run_rows d xs) rows ∙ (ap (λ zs. run_rows d zs other_old.rows) same ∙ sym (q.left d (subst (All (RowsAreKnown is_default is_clone d)) same known)).rows))

    pub agree_order : Ran is_clone is_default xs old new first last answers → RanDeferred is_clone is_default ys other_old other_new other_first other_last others → xs ≡ ys → old.order ≡ other_old.order → new.order ≡ other_new.order
    agree_order r q same order =
        r.order ∙ (ap (order_after (list_symmetry xs)) order ∙ (ap (λ zs. order_after (list_symmetry zs) other_old.order) same ∙ sym q.order))

    pub agree_replies : Ran is_clone is_default xs old new first last answers → RanDeferred is_clone is_default ys other_old other_new other_first other_last others → old.rows ≡ other_old.rows → xs ≡ ys → (d : T) → All (RowsAreKnown is_default is_clone d) xs → ClonesAreEqual is_clone → answers ≡ others
    agree_replies r q rows same d known clones =
        r.replies d known clones
        ∙ (ap (run_replies d xs) rows
        ∙ (ap (λ zs. run_replies d zs other_old.rows) same ∙ sym (q.replies d (subst (All (RowsAreKnown is_default is_clone d)) same known) clones)))

-- what holds where two results are both Ok
module _ {V W E F : Type 0} {P : V → Type 0} {Q : W → Type 0} where
  pub on_both_ok : (r : Result V E) (q : Result W F) {R : Type 0} → ((v : V) (w : W) → P v → Q w → R) → IfOk r P → IfOk q Q → OnOk r (OnOk q R)
  on_both_ok (Ok v) (Ok w) f h k = f v w h k
  on_both_ok (Ok v) (Err e) f h k = tt
  on_both_ok (Err e) q f h k = tt

  pub if_both_ok : (r : Result V E) (q : Result W F) {R : V → W → Type 0} → ((v : V) (w : W) → P v → Q w → R v w) → IfOk r P → IfOk q Q → IfOk r (λ v. IfOk q (λ w. R v w))
  if_both_ok (Ok v) (Ok w) f h k = f v w h k
  if_both_ok (Ok v) (Err e) f h k = tt
  if_both_ok (Err e) q f h k = tt
