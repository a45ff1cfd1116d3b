-- A row that is written cell by cell.
use Rattle.std.proofs.Common.{◌≡◌, ℕ, zero, suc, ◌+◌, ◌<◌, List, [], ◌∷◌, ◌++◌, length, take, drop, get_or, set, refl, sym, ap, ◌∙◌, arith, add-one, append-nil, Option, Some, None, MatchOption, get_or-set_same, take_all}
use Rattle.grid_base.proofs.Common.{drop_all, row, with_cell, InRange}

-- an item that is replaced twice
pub set_set : {X : Type 0} (xs : List X) (i : ℕ) (a b : X) → set (set xs i a) i b ≡ set xs i b
set_set [] i a b = refl
set_set (x ∷ xs) zero a b = refl
set_set (x ∷ xs) (suc i) a b = ap (λ ys. x ∷ ys) (set_set xs i a b)

-- the first cells are the new ones, and one more is written
put_next : {X : Type 0} (cells old : List X) (i : ℕ) (x : X) → i < length cells → length cells ≡ length old → x ≡ get_or cells i x → set (take i cells ++ drop i old) i x ≡ take (suc i) cells ++ drop (suc i) old
put_next [] old i x lt e is = absurd (omega arith)
put_next (c ∷ cells) [] i x lt e is = absurd (omega arith)
put_next (c ∷ cells) (y ∷ old) zero x lt e is = ap (λ z. z ∷ old) is
put_next (c ∷ cells) (y ∷ old) (suc i) x lt e is = ap (λ zs. c ∷ zs) (put_next cells old i x (omega arith) (omega arith) is)

module _ {T : Type 0} (old now new : List (List T)) (r i : ℕ) (cells : List T) (x : T) (lt : r < length old) (some : i < length cells) (fits : length cells ≡ length (row old r)) (so_far : now ≡ set old r (take i cells ++ drop i (row old r))) (is : x ≡ get_or cells i x) where
  written : new ≡ with_cell now r i x → new ≡ set old r (take (i + 1) cells ++ drop (i + 1) (row old r))
  written put =
      let line : List T = take i cells ++ drop i (row old r) in
      let here : row now r ≡ line = ap (λ t. row t r) so_far ∙ get_or-set_same old r line [] lt in
      put
      ∙ (ap (λ l. set now r (set l i x)) here
      ∙ (ap (λ t. set t r (set line i x)) so_far
      ∙ (set_set old r line (set line i x)
      ∙ (ap (set old r) (put_next cells (row old r) i x some fits is)
      ∙ ap (λ k. set old r (take k cells ++ drop k (row old r))) (sym (add-one i))))))

  -- one more cell
  pub row_written : (result : Option T) → InRange now r i → MatchOption result (InRange now r i → ⊥) (λ _. InRange now r i) → MatchOption result (new ≡ now) (λ _. new ≡ with_cell now r i x) → new ≡ set old r (take (i + 1) cells ++ drop (i + 1) (row old r))
  row_written None in_range out same = absurd (out in_range)
  row_written (Some w) in_range found put = written put

-- all cells
pub all_written : {T : Type 0} (old : List (List T)) (r i : ℕ) (cells line : List T) → i ≡ length cells → length cells ≡ length line → set old r (take i cells ++ drop i line) ≡ set old r cells
all_written old r i cells line all fits =
    ap (set old r) (ap (λ xs. xs ++ drop i line) (take_all i cells (omega (arith, all))) ∙ (ap (λ xs. cells ++ xs) (drop_all i line (omega (arith, all, fits))) ∙ append-nil cells))
