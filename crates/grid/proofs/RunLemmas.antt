-- A run of one more command.
use Rattle.std.proofs.Common.{◌≡◌, ℕ, ◌+◌, ◌<◌, List, [], ◌∷◌, ◌++◌, map, length, take, slice_get, length-append, Some, IsTrue, Result, Ok, Err, OnOk, IfOk, inr, refl, sym, ◌∙◌, ap, subst, arith, All, option_map}
use Rattle.grid.proofs.Common.{map-append, take-map, length-map, All-pop, slice_get-map, take-append_seam, GridValue, row_count, col_count, symmetry_of, order_after, Counts, ClonesAreEqual, product, symmetry_of-product_from, symmetry_of-more, order_after-order_after, CommandValue, ReplyValue, step_rows, step_reply, takes_memory, RowsAreKnown, ReplyIsKnown, AreDue, command_symmetry, list_symmetry, price_at, shift_at, run_rows, run_replies, run_price, run_shift, LeftByRun, Ran, MayStop}
use Rattle.grid_base.proofs.Common.{saturating_count}
use Rattle.grid_base.specs.declared.order.Order.{Order}
use Rattle.grid_base.specs.declared.words.Symmetry.TheVariants.{Identity}
use Rattle.grid.proofs.CellCallLemmas.{at_seam}
use Rattle.grid.proofs.KnownLemmas.{reply_known}

module _ {T : Type 0} where
  -- the order after a list of commands, one after another
  abbrev pub run_order : List (CommandValue T) → Order → Order
  run_order [] o = o
  run_order (x ∷ xs) o = run_order xs (order_after (command_symmetry x) o)

  pub run_order-more : (xs : List (CommandValue T)) (x : CommandValue T) (o : Order) → run_order (xs ++ x ∷ []) o ≡ order_after (command_symmetry x) (run_order xs o)
  run_order-more [] x o = refl
  run_order-more (y ∷ xs) x o = run_order-more xs x (order_after (command_symmetry y) o)

  pub run_rows-more : (d : T) (xs : List (CommandValue T)) (x : CommandValue T) (t : List (List T)) → run_rows d (xs ++ x ∷ []) t ≡ step_rows d x (run_rows d xs t)
  run_rows-more d [] x t = refl
  run_rows-more d (y ∷ xs) x t = run_rows-more d xs x (step_rows d y t)

  pub run_replies-more : (d : T) (xs : List (CommandValue T)) (x : CommandValue T) (t : List (List T)) → run_replies d (xs ++ x ∷ []) t ≡ run_replies d xs t ++ step_reply x (run_rows d xs t) ∷ []
  run_replies-more d [] x t = refl
  run_replies-more d (y ∷ xs) x t = ap (λ rs. step_reply y t ∷ rs) (run_replies-more d xs x (step_rows d y t))

  -- one more reply that is due
  pub due-more : (C : T → T → Type 0) (d : T) (xs : List (CommandValue T)) (x : CommandValue T) (t : List (List T)) (answers : List (ReplyValue T)) (q : ReplyValue T) → AreDue C d xs t answers → length answers ≡ length xs → (ReplyIsKnown C x → q ≡ step_reply x (run_rows d xs t)) → AreDue C d (xs ++ x ∷ []) t (answers ++ q ∷ [])
  due-more C d [] x t [] q h e known = (known, tt)
  due-more C d [] x t (p ∷ answers) q h e known = absurd (omega (arith, e))
  due-more C d (y ∷ xs) x t [] q h e known = absurd (omega (arith, e))
  due-more C d (y ∷ xs) x t (p ∷ answers) q h e known = (h.0, due-more C d xs x (step_rows d y t) answers q h.1 (omega (arith, e)) known)

  run_price-more : (d : T) (xs : List (CommandValue T)) (x : CommandValue T) (t : List (List T)) → run_price d (xs ++ x ∷ []) t ≡ run_price d xs t + price_at x (run_rows d xs t)
  run_price-more d [] x t = omega arith
  run_price-more d (y ∷ xs) x t = omega (arith, run_price-more d xs x (step_rows d y t))

  run_shift-more : (d : T) (xs : List (CommandValue T)) (x : CommandValue T) (o : Order) (t : List (List T)) → run_shift d (xs ++ x ∷ []) o t ≡ run_shift d xs o t + shift_at x (run_order xs o) (run_rows d xs t)
  run_shift-more d [] x o t = omega arith
  run_shift-more d (y ∷ xs) x o t = omega (arith, run_shift-more d xs x (order_after (command_symmetry y) o) (step_rows d y t))

  pub list_symmetry-more : (xs : List (CommandValue T)) (x : CommandValue T) → list_symmetry (xs ++ x ∷ []) ≡ product (list_symmetry xs) (command_symmetry x)
  list_symmetry-more xs x = ap symmetry_of (map-append command_symmetry xs (x ∷ [])) ∙ symmetry_of-more (map command_symmetry xs) (command_symmetry x)

  order-more : (xs : List (CommandValue T)) (x : CommandValue T) (o : Order) → order_after (list_symmetry (xs ++ x ∷ [])) o ≡ order_after (command_symmetry x) (order_after (list_symmetry xs) o)
  order-more xs x o = ap (λ s. order_after s o) (list_symmetry-more xs x) ∙ sym (order_after-order_after (list_symmetry xs) (command_symmetry x) o)

pub list_symmetry-none : symmetry_of [] ≡ Identity
list_symmetry-none = symmetry_of-product_from []

pub saturating_count-none : (n : ℕ) → n ≡ saturating_count n 0
saturating_count-none n = omega arith

saturating_count-saturating_count : (n j k : ℕ) → saturating_count (saturating_count n j) k ≡ saturating_count n (j + k)
saturating_count-saturating_count n j k = omega arith

-- a count of one more command
pub count_more : (n j k : ℕ) (before between after : ℕ) → between ≡ saturating_count before j → after ≡ saturating_count between k → n ≡ j + k → after ≡ saturating_count before n
count_more n j k before between after first more sum =
    more ∙ (ap (λ b. saturating_count b k) first ∙ (saturating_count-saturating_count before j k ∙ ap (saturating_count before) (sym sum)))

-- what a run so far made, with the order as it went
pub record Running {T : Type 0} (is_clone : T → T → Type 0) (is_default : T → Type 0) (xs : List (CommandValue T)) (old new : GridValue T) (before after : Counts) (answers : List (ReplyValue T)) : Type 0 where
  pub ran : Ran is_clone is_default xs old new before after answers
  pub ordered : new.order ≡ run_order xs old.order

module _ {T : Type 0} (is_clone : T → T → Type 0) (is_default : T → Type 0) where
  pub running_none : (s : GridValue T) (t : Counts) → Running is_clone is_default [] s s t t []
  running_none s t = record {
    ran = record {
      count = refl;
      order = ap (λ x. order_after x s.order) (sym list_symmetry-none);
      left = λ d known. record { rows = refl; symmetry = saturating_count-none t.symmetry; shift = saturating_count-none t.shift };
      due = λ d known. tt;
      replies = λ d known same. refl;
    };
    ordered = refl;
  }

  module _ (xs : List (CommandValue T)) (x : CommandValue T) (old mid new : GridValue T) (first between last : Counts) (answers more : List (ReplyValue T)) (q : ReplyValue T) where
    pub running_more : Running is_clone is_default xs old mid first between answers → ((d : T) → RowsAreKnown is_default is_clone d x → new.rows ≡ step_rows d x mid.rows) → more ≡ answers ++ q ∷ [] → (ReplyIsKnown is_clone x → q ≡ step_reply x mid.rows) → new.order ≡ order_after (command_symmetry x) mid.order → last.symmetry ≡ saturating_count between.symmetry (price_at x mid.rows) → last.shift ≡ saturating_count between.shift (shift_at x mid.order mid.rows) → Running is_clone is_default (xs ++ x ∷ []) old new first last more
    running_more r rows appended reply order symmetry shift = record {
      ran = record {
        count = omega (arith, ap length appended, length-append answers (q ∷ []), r.ran.count, length-append xs (x ∷ []));
        order = order ∙ (ap (order_after (command_symmetry x)) r.ran.order ∙ sym (order-more xs x old.order));
        left = λ d known. all_left d (All-pop (RowsAreKnown is_default is_clone d) (xs ++ x ∷ []) xs (Some x) refl known);
        due = λ d known.
            let before = (All-pop (RowsAreKnown is_default is_clone d) (xs ++ x ∷ []) xs (Some x) refl known).0 in
            rw appended (due-more is_clone d xs x old.rows answers q (r.ran.due d before) r.ran.count (λ k. reply k ∙ ap (step_reply x) (r.ran.left d before).rows));
        replies = λ d known same.
            let before = (All-pop (RowsAreKnown is_default is_clone d) (xs ++ x ∷ []) xs (Some x) refl known).0 in
            let l = r.ran.left d before in
            appended
            ∙ (ap (λ p. answers ++ p ∷ []) (reply (reply_known is_clone same x))
            ∙ (ap (λ rs. rs ++ step_reply x mid.rows ∷ []) (r.ran.replies d before same)
            ∙ (ap (λ t. run_replies d xs old.rows ++ step_reply x t ∷ []) l.rows ∙ sym (run_replies-more d xs x old.rows))));
      };
      ordered = order ∙ (ap (order_after (command_symmetry x)) r.ordered ∙ sym (run_order-more xs x old.order));
    }
      where
        all_left : (d : T) → All (RowsAreKnown is_default is_clone d) xs × RowsAreKnown is_default is_clone d x → LeftByRun d (xs ++ x ∷ []) old new first last
        all_left d known =
            let l = r.ran.left d known.0 in
            record {
              rows = rows d known.1 ∙ (ap (step_rows d x) l.rows ∙ sym (run_rows-more d xs x old.rows));
              symmetry = count_more _ _ _ _ _ _ l.symmetry (symmetry ∙ ap (λ t. saturating_count between.symmetry (price_at x t)) l.rows) (run_price-more d xs x old.rows);
              shift = count_more _ _ _ _ _ _ l.shift (shift ∙ (ap (λ t. saturating_count between.shift (shift_at x mid.order t)) l.rows ∙ ap (λ o. saturating_count between.shift (shift_at x o (run_rows d xs old.rows))) r.ordered)) (run_shift-more d xs x old.order old.rows);
            }

  -- a command that changed nothing leaves what the run so far made
  pub ran_still : (xs : List (CommandValue T)) (old mid new : GridValue T) (first between last : Counts) (answers : List (ReplyValue T)) → Ran is_clone is_default xs old mid first between answers → new ≡ mid → last.symmetry ≡ between.symmetry → last.shift ≡ between.shift → Ran is_clone is_default xs old new first last answers
  ran_still xs old mid new first between last answers h same symmetry shift = record {
    count = h.count;
    order = ap (λ s. s.order) same ∙ h.order;
    left = λ d known.
        let l = h.left d known in
        record { rows = ap (λ s. s.rows) same ∙ l.rows; symmetry = symmetry ∙ l.symmetry; shift = shift ∙ l.shift };
    due = h.due;
    replies = h.replies;
  }

  -- runs of the same commands on grids of the same rows
  module _ {V W E F : Type 0} (first : V → List (ReplyValue T)) (second : W → List (ReplyValue T)) (xs ys : List (CommandValue T)) (old new other other_new : GridValue T) (before after other_before other_after : Counts) (rows : other.rows ≡ old.rows) (same : ys ≡ xs) where
    pub same_run_rows : (r : Result V E) (q : Result W F) → IfOk r (λ v. Ran is_clone is_default xs old new before after (first v)) → IfOk q (λ w. Ran is_clone is_default ys other other_new other_before other_after (second w)) → OnOk r (OnOk q ((d : T) → All (RowsAreKnown is_default is_clone d) xs → other_new.rows ≡ new.rows))
    same_run_rows (Ok v) (Ok w) h k = λ d known.
        (k.left d (subst (All (RowsAreKnown is_default is_clone d)) (sym same) known)).rows
        ∙ (ap (λ zs. run_rows d zs other.rows) same ∙ (ap (run_rows d xs) rows ∙ sym (h.left d known).rows))
    same_run_rows (Ok v) (Err e) h k = tt
    same_run_rows (Err e) q h k = tt

    pub same_run_replies : (r : Result V E) (q : Result W F) → IfOk r (λ v. Ran is_clone is_default xs old new before after (first v)) → IfOk q (λ w. Ran is_clone is_default ys other other_new other_before other_after (second w)) → IfOk r (λ v. IfOk q (λ w. (d : T) → All (RowsAreKnown is_default is_clone d) xs → ClonesAreEqual is_clone → second w ≡ first v))
    same_run_replies (Ok v) (Ok w) h k = λ d known equal.
        k.replies d (subst (All (RowsAreKnown is_default is_clone d)) (sym same) known) equal
        ∙ (ap (λ zs. run_replies d zs other.rows) same ∙ (ap (run_replies d xs) rows ∙ sym (h.replies d known equal)))
    same_run_replies (Ok v) (Err e) h k = tt
    same_run_replies (Err e) q h k = tt

pub take_at_seam : {X : Type 0} (all xs ys : List X) (n : ℕ) → xs ++ ys ≡ all → n ≡ length xs → take n all ≡ xs
take_at_seam all xs ys n e h = rw (h, ← e) (take-append_seam xs ys)

pub get_at_seam : {X : Type 0} (all xs : List X) (y : X) (ys : List X) (n : ℕ) → xs ++ y ∷ ys ≡ all → n ≡ length xs → slice_get all n ≡ Some y
get_at_seam all xs y ys n e h = rw (h, ← e) (at_seam xs y ys)

-- where a run stops: the commands done are the first ones
pub take_values : {X Y : Type 0} (f : X → Y) (all xs ys : List X) (n : ℕ) → xs ++ ys ≡ all → n ≡ length xs → take n (map f all) ≡ map f xs
take_values f all xs ys n e h = take-map f n all ∙ ap (map f) (take_at_seam all xs ys n e h)

pub get_value : {X Y : Type 0} (f : X → Y) (all xs : List X) (y : X) (ys : List X) (n : ℕ) → xs ++ y ∷ ys ≡ all → n ≡ length xs → slice_get (map f all) n ≡ Some (f y)
get_value f all xs y ys n e h = slice_get-map f all n ∙ ap (option_map f) (get_at_seam all xs y ys n e h)

pub some_values : {X Y : Type 0} (f : X → Y) (xs : List X) → 0 < length xs → 0 < length (map f xs)
some_values f xs some = omega (arith, some, length-map xs f)

pub may_stop : {T : Type 0} (all : List (CommandValue T)) (n : ℕ) (x : CommandValue T) (last t : List (List T)) → slice_get all n ≡ Some x → last ≡ t → IsTrue (takes_memory x (row_count t) (col_count t)) → MayStop all n last
may_stop all n x last t at same memory = inr (rw (at, same) memory)
