-- What iterators over a grid's fields say of the value that a contract sees.
use Rattle.std.proofs.Common.{◌≡◌, ℕ, ◌*◌, List, ◌++◌, length, take, drop, zip, refl, sym, ◌∙◌, ap}
use Rattle.grid_base.specs.declared.layout.Layout.{Layout}
use Rattle.grid.proofs.Common.{take-append_seam, refill, length_refill, row_count, col_count, transposed, place, flipped, table_of, positions, GridValue, HoldsSize, written_from, act_is_transposed, same_grid_value, view-transpose, grid_value, with_cells, stored, refilled, refilled_from, IsSameSize, KeepsSize, KeepsSizeFrom}
use Rattle.grid_base.specs.declared.order.Order.{Order}
use Rattle.grid_base.specs.declared.order.Order.TheVariants.{RowMajor, ColumnMajor}
use Rattle.grid.proofs.SeenLemmas.{seen_rows, seen_cols, seen_storage}

-- the storage of a table is that of the transposed table in the other order
pub place_flipped : (o : Order) (m n r c : ℕ) → place (flipped o) n m c r ≡ place o m n r c
place_flipped RowMajor m n r c = refl
place_flipped ColumnMajor m n r c = refl

module _ {T : Type 0} (o : Order) (m n : ℕ) (cells : List T) (v : GridValue T) (h : HoldsSize m n (length cells)) (e : grid_value o m n cells h ≡ v) where
  order_is : v.order ≡ o
  order_is = sym (ap (λ x. x.order) e)

  pub seen_transposed : table_of (flipped o) n m cells ≡ transposed v.rows
  seen_transposed = view-transpose o m n cells h ∙ (act_is_transposed _ ∙ ap (λ x. transposed x.rows) e)

  -- the cells with their positions
  pub seen_indexed : zip (positions o m n) cells ≡ zip (positions v.order (row_count v.rows) (col_count v.rows)) (stored v)
  seen_indexed = sym (
      ap (λ x. zip (positions x (row_count v.rows) (col_count v.rows)) (stored v)) order_is
      ∙ (ap (λ x. zip (positions o x (col_count v.rows)) (stored v)) (seen_rows o m n cells v h e)
      ∙ (ap (λ x. zip (positions o m x) (stored v)) (seen_cols o m n cells v h e) ∙ ap (zip (positions o m n)) (seen_storage o m n cells v h e)))
      )

  -- the grid with other cells
  pub seen_with : (xs ys : List T) (k : HoldsSize m n (length xs)) (l : length ys ≡ length (stored v)) → xs ≡ ys → grid_value o m n xs k ≡ with_cells v ys l
  seen_with xs ys k l same =
      same_grid_value _ _
      (ap (table_of o m n) same
      ∙ sym (ap (λ x. table_of x (row_count v.rows) (col_count v.rows) ys) order_is
      ∙ (ap (λ x. table_of o x (col_count v.rows) ys) (seen_rows o m n cells v h e) ∙ ap (λ x. table_of o m x ys) (seen_cols o m n cells v h e))))
      (sym order_is)

  pub seen_refilled : (ws : List T) (k : HoldsSize m n (length (refill (length cells) cells ws))) → grid_value o m n (refill (length cells) cells ws) k ≡ refilled v ws
  seen_refilled ws k = seen_with _ _ k _ (ap (λ c. refill (length c) c ws) (sym (seen_storage o m n cells v h e)))

  place_is : (r c : ℕ) → place v.order (row_count v.rows) (col_count v.rows) r c ≡ place o m n r c
  place_is r c =
      ap (λ x. place x (row_count v.rows) (col_count v.rows) r c) order_is
      ∙ (ap (λ x. place o x (col_count v.rows) r c) (seen_rows o m n cells v h e) ∙ ap (λ x. place o m x r c) (seen_cols o m n cells v h e))

  pub seen_written : (start r c : ℕ) (ws : List T) (k : HoldsSize m n (length (written_from start cells ws))) → start ≡ place o m n r c → grid_value o m n (written_from start cells ws) k ≡ refilled_from v r c ws
  seen_written start r c ws k s =
      seen_with _ _ k _ (ap (λ x. written_from x cells ws) (s ∙ sym (place_is r c)) ∙ ap (λ x. written_from (place v.order (row_count v.rows) (col_count v.rows) r c) x ws) (sym (seen_storage o m n cells v h e)))

  -- the size stays where as many cells are written
  fits_of : (news : List T) → length news ≡ length cells → HoldsSize m n (length news)
  fits_of news same = rw same h

  size_kept : (news : List T) (u : GridValue T) (same : length news ≡ length cells) → grid_value o m n news (fits_of news same) ≡ u → IsSameSize v u.rows
  size_kept news u same f =
      let fits = fits_of news same in
      (seen_rows o m n news u fits f ∙ sym (seen_rows o m n cells v h e), seen_cols o m n news u fits f ∙ sym (seen_cols o m n cells v h e))

  pub seen_keeps : KeepsSize v
  seen_keeps ws = size_kept (refill (length cells) cells ws) (refilled v ws) (sym (length_refill (length cells) cells ws refl)) (seen_refilled ws _)

  pub seen_keeps_from : (r c : ℕ) → KeepsSizeFrom v r c
  seen_keeps_from r c ws =
      let start = place o m n r c in
      size_kept (written_from start cells ws) (refilled_from v r c ws)
      (sym (length_refill (length cells) cells (take start cells ++ (ws ++ drop (length ws) (drop start cells))) refl))
      (seen_written start r c ws _ refl)

  -- where what is written is what was there, the rows are as they were
  pub seen_held : (start r c : ℕ) (ws : List T) → start ≡ place o m n r c → written_from start cells ws ≡ cells → (refilled_from v r c ws).rows ≡ v.rows
  seen_held start r c ws s same =
      ap (λ x. x.rows) (sym (seen_written start r c ws (fits_of (written_from start cells ws) (ap length same)) s))
      ∙ (ap (table_of o m n) same ∙ ap (λ x. x.rows) e)

  -- where all cells are written, the grid has their rows
  pub seen_given_back : (b : Layout) (ws : List T) → b.order ≡ o → b.rows ≡ m → b.cols ≡ n → length ws ≡ b.rows * b.cols → (refilled v ws).rows ≡ table_of b.order b.rows b.cols ws
  seen_given_back b ws order rows cols long =
      let full : length ws ≡ length cells = long ∙ (ap (λ x. x * b.cols) rows ∙ (ap (λ x. m * x) cols ∙ sym h.cells)) in
      let all : refill (length cells) cells ws ≡ ws = ap (λ k. take k (ws ++ drop (length ws) cells)) (sym full) ∙ take-append_seam ws (drop (length ws) cells) in
      ap (λ x. x.rows) (sym (seen_refilled ws (fits_of (refill (length cells) cells ws) (ap length all ∙ full))))
      ∙ (ap (table_of o m n) all
      ∙ sym (ap (λ x. table_of x b.rows b.cols ws) order ∙ (ap (λ x. table_of o x b.cols ws) rows ∙ ap (λ x. table_of o m x ws) cols)))
