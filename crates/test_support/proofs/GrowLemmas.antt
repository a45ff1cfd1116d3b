-- Lists and tables that grow at the end, by a cell, a row or a command.
use Rattle.std.proofs.Common.{◌≡◌, ℕ, ◌+◌, ◌<◌, Option, List, [], ◌∷◌, ◌++◌, length, map, take, get_or, refl, sym, ◌∙◌, ap, arith, filter_map, map-id}
use Rattle.grid.specs.Prelude.{row_count, col_count, cell, cells_by, tabulate, source_row, source_col, CommandValue, ReplyValue, step_rows, step_reply, run_rows, run_replies}
use Rattle.std.specs.List.{range_with_len, cons_option}
use Rattle.std.proofs.lemmas.List.{length-map, get_or-map, take_more}
use Rattle.std.proofs.lemmas.List.FromFn.{map-range_with_len_more}
use Rattle.std.proofs.lemmas.List.Elements.{filter_map-append}
use Rattle.grid_base.specs.declared.words.Symmetry.{Symmetry}
use Rattle.grid.proofs.RunLemmas.{run_rows-more, run_replies-more}

module _ {T : Type 0} where
  pub line-none : (f : ℕ → Option T) → cells_by 0 f ≡ []
  unfolding cells_by
  line-none f = refl

  pub tabulate-none : (n : ℕ) (f : ℕ → ℕ → Option T) → tabulate 0 n f ≡ []
  unfolding tabulate
  tabulate-none n f = refl

  -- one more place of a line: its cell, if there is one
  pub line-more : (n : ℕ) (f : ℕ → Option T) → cells_by (n + 1) f ≡ cells_by n f ++ cons_option (f n) []
  unfolding cells_by
  line-more n f =
      let places : range_with_len 0 (n + 1) ≡ range_with_len 0 n ++ n ∷ [] =
      sym (map-id _) ∙ (map-range_with_len_more (λ x. x) 0 n n (omega arith) ∙ ap (λ xs. xs ++ n ∷ []) (map-id _)) in
      ap (filter_map f) places ∙ filter_map-append f (range_with_len 0 n) (n ∷ [])

  -- one more row of a table
  pub tabulate-more : (m n : ℕ) (f : ℕ → ℕ → Option T) → tabulate (m + 1) n f ≡ tabulate m n f ++ cells_by n (f m) ∷ []
  unfolding tabulate
  tabulate-more m n f = map-range_with_len_more (λ r. cells_by n (f r)) 0 m m (omega arith)

  pub tabulate-at : (m k n : ℕ) (f : ℕ → ℕ → Option T) → m ≡ k → tabulate m n f ≡ tabulate k n f
  tabulate-at m k n f e = ap (λ x. tabulate x n f) e

  -- a vector to which the cell at the next place is added, if there is one
  pub line-grown : (n : ℕ) (f : ℕ → Option T) (cells news : List T) (o : Option T) → cells ≡ cells_by n f → o ≡ f n → news ≡ cells ++ cons_option o [] → news ≡ cells_by (n + 1) f
  line-grown n f cells news o so_far found grown =
      grown ∙ (ap (λ xs. xs ++ cons_option o []) so_far ∙ (ap (λ x. cells_by n f ++ cons_option x []) found ∙ sym (line-more n f)))

  -- rows to which the next row is added
  pub tabulate-grown : (m n : ℕ) (f : ℕ → ℕ → Option T) (t u : List (List T)) (cells : List T) → t ≡ tabulate m n f → cells ≡ cells_by n (f m) → u ≡ t ++ cells ∷ [] → u ≡ tabulate (m + 1) n f
  tabulate-grown m n f t u cells so_far next grown =
      grown ∙ (ap (λ xs. xs ++ cells ∷ []) so_far ∙ (ap (λ x. tabulate m n f ++ x ∷ []) next ∙ sym (tabulate-more m n f)))

  -- a cell that was read where the formula says
  pub source-read : (s : Symmetry) (t : List (List T)) (m n i j r c : ℕ) (o : Option T) → m ≡ row_count t → n ≡ col_count t → r ≡ source_row s m n i j → c ≡ source_col s m n i j → o ≡ cell t r c → o ≡ cell t (source_row s (row_count t) (col_count t) i j) (source_col s (row_count t) (col_count t) i j)
  source-read s t m n i j r c o em en er ec e =
      e ∙ (ap (λ x. cell t x c) (er ∙ (ap (λ x. source_row s x n i j) em ∙ ap (λ x. source_row s (row_count t) x i j) en))
      ∙ ap (cell t (source_row s (row_count t) (col_count t) i j)) (ec ∙ (ap (λ x. source_col s x n i j) em ∙ ap (λ x. source_col s (row_count t) x i j) en)))

  -- the table t after the first i commands of a list, and what the next command makes of it
  module _ {C : Type 0} (f : C → CommandValue T) (d : T) (cs : List C) (i : ℕ) (c : C) (start t : List (List T)) (within : i < length cs) (is : c ≡ get_or cs i c) (rows : t ≡ run_rows d (take i (map f cs)) start) where
    next : take (i + 1) (map f cs) ≡ take i (map f cs) ++ f c ∷ []
    next =
        take_more (map f cs) i (f c) (omega (arith, within, length-map cs f))
        ∙ ap (λ x. take i (map f cs) ++ x ∷ []) (get_or-map f cs i c (f c) within ∙ ap f (sym is))

    pub rows-stepped : (new : List (List T)) → new ≡ step_rows d (f c) t → new ≡ run_rows d (take (i + 1) (map f cs)) start
    rows-stepped new e =
        e ∙ (ap (step_rows d (f c)) rows
        ∙ (sym (run_rows-more d (take i (map f cs)) (f c) start) ∙ ap (λ xs. run_rows d xs start) (sym next)))

    pub replies-stepped : (replies news : List (ReplyValue T)) (reply : ReplyValue T) → replies ≡ run_replies d (take i (map f cs)) start → reply ≡ step_reply (f c) t → news ≡ replies ++ reply ∷ [] → news ≡ run_replies d (take (i + 1) (map f cs)) start
    replies-stepped replies news reply so_far e grown =
        grown ∙ (ap (λ xs. xs ++ reply ∷ []) so_far
        ∙ (ap (λ x. run_replies d (take i (map f cs)) start ++ x ∷ []) (e ∙ ap (step_reply (f c)) rows)
        ∙ (sym (run_replies-more d (take i (map f cs)) (f c) start) ∙ ap (λ xs. run_replies d xs start) (sym next))))
