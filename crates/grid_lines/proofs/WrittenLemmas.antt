-- A row that is written from an iterator, item by item.
use Rattle.std.proofs.Common.{◌≡◌, ℕ, ◌+◌, ◌<◌, ◌≤◌, Option, Some, None, MatchOption, Bool, true, false, true≢false, inl, inr, List, [], ◌∷◌, ◌++◌, length, drop, set, refl, sym, ap, ◌∙◌, arith, length-append, get_or-set_same}
use Rattle.std.specs.Iterator.{Yields}
use Rattle.std.specs.Iterator.Runs.{SomeRun}
use Rattle.std.proofs.iter.Next.{Yields-more}
use Rattle.std.proofs.iter.runs.Made.{run, to_end}
use Rattle.grid_base.proofs.Common.{row, with_cell, InRange, set-get_or, get_or_past}
use Rattle.grid_lines.specs.Written.{with_first_cells, WritesLine, WritesNext}
use Rattle.grid_lines.proofs.SetLemmas.{set_set}

-- one more item over the first cells
put_item : {X : Type 0} (items old : List X) (x : X) → length items < length old → set (items ++ drop (length items) old) (length items) x ≡ (items ++ x ∷ []) ++ drop (length (items ++ x ∷ [])) old
put_item [] [] x lt = absurd (omega arith)
put_item [] (y ∷ old) x lt = refl
put_item (i ∷ items) [] x lt = absurd (omega arith)
put_item (i ∷ items) (y ∷ old) x lt = ap (λ zs. i ∷ zs) (put_item items old x (omega arith))

-- a write that finds its cell
pub found_put : {T : Type 0} (now new : List (List T)) (r c : ℕ) (x : T) (result : Option T) → InRange now r c → MatchOption result (InRange now r c → ⊥) (λ _. InRange now r c) → MatchOption result (new ≡ now) (λ _. new ≡ with_cell now r c x) → new ≡ with_cell now r c x
found_put now new r c x None in_range out same = absurd (out in_range)
found_put now new r c x (Some y) in_range found put = put

module _ {S T : Type 0} (steps : S → Option T → S → Type 0) (s : S) (old : List (List T)) (r : ℕ) where
  -- the iterator has come to t, and the n items that it gave are over the first cells of the row
  pub record WrittenSoFar (t : S) (n : ℕ) (now : List (List T)) : Type 0 where
    pub items : List T
    pub ran : Yields steps s items t
    pub count : length items ≡ n
    pub rows : now ≡ with_first_cells old r items

  pub written_none : WrittenSoFar s 0 old
  written_none = record { items = []; ran = refl; count = refl; rows = sym (set-get_or old r []) }

  -- one more item
  pub written_more : (t u : S) (n : ℕ) (now new : List (List T)) (x : T) → WrittenSoFar t n now → steps t (Some x) u → r < length old → n < length (row old r) → new ≡ with_cell now r n x → WrittenSoFar u (n + 1) new
  written_more t u n now new x w step lt some put =
      let line : List T = w.items ++ drop (length w.items) (row old r) in
      let here : row now r ≡ line = ap (λ v. row v r) w.rows ∙ get_or-set_same old r line [] lt in
      record {
        items = w.items ++ x ∷ [];
        ran = Yields-more steps s w.items t x u w.ran step;
        count = length-append w.items (x ∷ []) ∙ ap (λ k. k + 1) w.count;
        rows = put
            ∙ (ap (λ l. set now r (set l n x)) here
            ∙ (ap (λ v. set v r (set line n x)) w.rows
            ∙ (set_set old r line (set line n x)
            ∙ ap (set old r) (ap (λ k. set line k x) (sym w.count) ∙ put_item w.items (row old r) x (omega (arith, w.count, some))))));
      }

  -- the iterator ended, or the row is full
  pub written_ended : (t u : S) (n : ℕ) (now : List (List T)) → WrittenSoFar t n now → steps t None u → SomeRun steps s (WritesLine old r now n)
  written_ended t u n now w step = (run steps s w.items true (to_end steps s w.items (u, (t, w.ran, step))), refl, (w.count, w.rows, inl refl))

  pub written_full : (t : S) (n : ℕ) (now : List (List T)) → WrittenSoFar t n now → n ≡ length (row old r) → SomeRun steps s (WritesLine old r now n)
  written_full t n now w full = (run steps s w.items false (t, w.ran, λ e. absurd (true≢false (sym e))), refl, (w.count, w.rows, inr full))

  -- there is no such row
  pub written_no_row : length old ≤ r → SomeRun steps s (WritesLine old r old 0)
  written_no_row past = written_full s 0 old written_none (sym (ap length (get_or_past old r [] past)))

  -- a call gave an item, or none
  pub written_next : (can : S → Type 0) (t u : S) (n : ℕ) (now new : List (List T)) (some : Bool) → WrittenSoFar t n now → WritesNext can steps t u (r, n) now new some → some ≡ true → r < length old → n < length (row old r) → can u × WrittenSoFar u (n + 1) new
  written_next can t u n now new some w (Some x, step, (got, ready, put)) is lt room = (ready, written_more t u n now new x w step lt room put)
  written_next can t u n now new some w (None, step, (not, same)) is lt room = absurd (true≢false (sym is ∙ not))

  pub written_last : (can : S → Type 0) (t u : S) (n : ℕ) (now new : List (List T)) (some : Bool) → WrittenSoFar t n now → WritesNext can steps t u (r, n) now new some → some ≡ false → SomeRun steps s (WritesLine old r new n)
  written_last can t u n now new some w (Some x, step, (got, ready, put)) is = absurd (true≢false (sym got ∙ is))
  written_last can t u n now new some w (None, step, (not, same)) is = written_ended t u n new (record { items = w.items; ran = w.ran; count = w.count; rows = same ∙ w.rows }) step
