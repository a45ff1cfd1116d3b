-- Tables of what a closure returns.
use Rattle.std.proofs.Common.{◌≡◌, ℕ, List, Option, None, Some, MatchOption, Result, Ok, Err, IfOk, subst, Bor}
use Rattle.grid_paths.proofs.Common.{GridValue, SameSizeAndOrder, cell, MappedBy, some_and_map, answers_by, IsAnswer, AreAnswers, HoldsOfAnswers}

module _ {F T R : Type 0} (returns : F → Bor T → R → Type 0) (f : F) where
  -- the grid that a closure q makes, which returns what f may return
  pub AreAnswers-mapped : {G E : Type 0} (v : GridValue T) (Q : G → ℕ × ℕ → Bor T → R → Type 0) (q : G) (r : Result (GridValue R) E) → IfOk r (SameSizeAndOrder v) → IfOk r (λ g. MappedBy Q q v.rows g.rows) → ((i j : ℕ) (p : Bor T) (y : R) → Q q (i, j) p y → returns f p y) → IfOk r (λ g. AreAnswers returns f v.rows g.rows)
  AreAnswers-mapped v Q q (Ok g) same cells says =
      record {
        table = g.table;
        rows = same.rows;
        cols = same.cols;
        answers = λ i j inside. some_and_map (cell g.rows i j) (λ y w. (w.0, w.1, says i j w.0 y w.2)) (cells.answers i j inside);
      }
  AreAnswers-mapped v Q q (Err e) same cells says = tt

  -- what holds of a table of answers holds of the answers
  pub HoldsOfAnswers-is : (t : List (List T)) (P : List (List R) → Type 0) (u : List (List R)) → AreAnswers returns f t u → ((p : T → R) → IsAnswer returns f p → u ≡ answers_by p t) → P u → HoldsOfAnswers returns f t P
  HoldsOfAnswers-is t P u answers is h = record { some = (u, answers, h); each = λ p q. subst P (is p q) h }

  -- the same, as far as a result is Ok
  pub HoldsOfAnswers-if_ok : {V E : Type 0} (t : List (List T)) (r : Result V E) (P : List (List R) → V → Type 0) (u : List (List R)) → AreAnswers returns f t u → ((p : T → R) → IsAnswer returns f p → u ≡ answers_by p t) → IfOk r (λ v. P u v) → IfOk r (λ v. HoldsOfAnswers returns f t (λ x. P x v))
  HoldsOfAnswers-if_ok t (Ok v) P u answers is h =
      HoldsOfAnswers-is t (λ x. P x v) u answers is h
  HoldsOfAnswers-if_ok t (Err e) P u answers is h = tt

  -- and as far as something is found
  pub HoldsOfAnswers-if_found : {V E : Type 0} (t : List (List T)) (r : Result (Option V) E) (N : List (List R) → Type 0) (P : List (List R) → V → Type 0) (u : List (List R)) → AreAnswers returns f t u → ((p : T → R) → IsAnswer returns f p → u ≡ answers_by p t) → IfOk r (λ o. MatchOption o (N u) (λ v. P u v)) → IfOk r (λ o. MatchOption o (HoldsOfAnswers returns f t N) (λ v. HoldsOfAnswers returns f t (λ x. P x v)))
  HoldsOfAnswers-if_found t (Ok None) N P u answers is h =
      HoldsOfAnswers-is t N u answers is h
  HoldsOfAnswers-if_found t (Ok (Some v)) N P u answers is h =
      HoldsOfAnswers-is t (λ x. P x v) u answers is h
  HoldsOfAnswers-if_found t (Err e) N P u answers is h = tt
