-- Two rows or two columns of a table that change places, cell by cell.
use Rattle.std.proofs.Common.{◌≡◌, ◌≢◌, ℕ, ◌+◌, ◌*◌, ◌<◌, ◌≤◌, Bool, true, false, nat_eq, if◌then◌else◌, Option, Some, None, List, [], ◌∷◌, length, set, get_or, IsSome, refl, sym, ◌∙◌, ap, arith, ⊎_elim, Decides, slice_get, swap, mul-le-mul_right, length-set}
use Rattle.grid.proofs.Common.{length-map, swap_is, length-swap, slice_get-get_or, cases_lt, nat_tests, row, row_count, col_count, cell, with_cell_of, exchanged, IsTable, table_of, BlocksSwapped, GridValue, HoldsSize, act, cell-act, rows-act, IsSome_within, same_tables, view-rows, view-cols, view-table, view-cell, get-set_same, get-set_other, cell-with_same, cell-with_other, rows-with_cell_of, cols-with_cell_of, IsTable-with_cell_of, cols_swapped}
use Rattle.std.proofs.Math.ListN.{get_or-map}
use Rattle.grid_base.specs.declared.order.Order.TheVariants.{RowMajor}
use Rattle.grid_base.specs.declared.words.Symmetry.TheVariants.{Transpose}
use Rattle.grid.proofs.ListEditLemmas.{get_or-same}

if_cases : {X : Type 0} (P : X → Type 0) (c : Bool) (W : Type 0) (x y : X) → Decides c W → (W → P x) → ((W → ⊥) → P y) → P (if c then x else y)
if_cases P true W x y d p q = p (d.0 refl)
if_cases P false W x y d p q = q (λ w. let t = d.1 w in absurd (cc))

-- the number of the item that comes to place k, where items a and b change places
abbrev pub partner : ℕ → ℕ → ℕ → ℕ
partner a b k = if nat_eq k b then a else if nat_eq k a then b else k

pub partner_cases : (P : ℕ → Type 0) (a b k : ℕ) → (k ≡ b → P a) → (k ≢ b → k ≡ a → P b) → (k ≢ b → k ≢ a → P k) → P (partner a b k)
partner_cases P a b k first second other =
    if_cases P (nat_eq k b) (k ≡ b) a _ (grind (arith, nat_tests)) first
    (λ nb. if_cases P (nat_eq k a) (k ≡ a) b k (grind (arith, nat_tests)) (second nb) (other nb))

partner_within : (a b k m : ℕ) → a < m → b < m → k < m → partner a b k < m
partner_within a b k m la lb lk = partner_cases (λ p. p < m) a b k (λ _. la) (λ _ _. lb) (λ _ _. lk)

-- a list of which two items have changed places
module _ {X : Type 0} where
  pub get-swap : (xs : List X) (a b k : ℕ) → a < length xs → b < length xs → slice_get (swap xs a b) k ≡ slice_get xs (partner a b k)
  get-swap [] a b k la lb = absurd (omega arith)
  get-swap (d ∷ ys) a b k la lb =
      let xs = d ∷ ys in
      let once = set xs a (get_or xs b d) in
      ap (λ v. slice_get v k) (sym (swap_is xs a b d la lb))
      ∙ partner_cases (λ p. slice_get (set once b (get_or xs a d)) k ≡ slice_get xs p) a b k
      (λ e.
      ap (slice_get (set once b (get_or xs a d))) e
      ∙ (get-set_same once b (get_or xs a d) (omega (arith, length-set xs a (get_or xs b d))) ∙ sym (slice_get-get_or xs a d la)))
      (λ nb e.
      get-set_other once b k (get_or xs a d) nb
      ∙ (ap (slice_get once) e ∙ (get-set_same xs a (get_or xs b d) la ∙ sym (slice_get-get_or xs b d lb))))
      (λ nb na. get-set_other once b k (get_or xs a d) nb ∙ get-set_other xs a k (get_or xs b d) na)

-- a table by its cells, where two lines of another have changed places
module _ {T : Type 0} (t u : List (List T)) (h : IsTable t) (k : IsTable u) (rows : row_count u ≡ row_count t) (cols : col_count u ≡ col_count t) (a b : ℕ) where
  pub swapped_rows : a < row_count t → b < row_count t → ((r c : ℕ) → r < row_count t → c < col_count t → cell u r c ≡ cell t (partner a b r) c) → u ≡ swap t a b
  swapped_rows la lb cells =
      let at_row : (r : ℕ) → row (swap t a b) r ≡ row t (partner a b r) = λ r. get_or-same (swap t a b) t r (partner a b r) [] (get-swap t a b r la lb) in
      same_tables u (swap t a b) (rows ∙ sym (length-swap t a b))
      (λ r lr. k.even r lr ∙ (cols ∙ sym (ap length (at_row r) ∙ h.even (partner a b r) (partner_within a b r _ la lb (omega arith)))))
      (λ r c lr lc. cells r c (omega arith) (omega (arith, k.even r lr)) ∙ sym (ap (λ v. slice_get v c) (at_row r)))

  pub swapped_cols : a < col_count t → b < col_count t → ((r c : ℕ) → r < row_count t → c < col_count t → cell u r c ≡ cell t r (partner a b c)) → u ≡ cols_swapped a b t
  swapped_cols la lb cells =
      let at_row : (r : ℕ) → row (cols_swapped a b t) r ≡ swap (row t r) a b = λ r. get_or-map (λ (line : List T). swap line a b) t r [] in
      same_tables u (cols_swapped a b t) (rows ∙ sym (length-map t (λ (line : List T). swap line a b)))
      (λ r lr. k.even r lr ∙ (cols ∙ sym (ap length (at_row r) ∙ (length-swap (row t r) a b ∙ h.even r (omega arith)))))
      (λ r c lr lc.
      let width : length (row t r) ≡ col_count t = h.even r (omega arith) in
      cells r c (omega arith) (omega (arith, k.even r lr))
      ∙ sym (ap (λ v. slice_get v c) (at_row r) ∙ get-swap (row t r) a b c (omega arith) (omega arith)))

-- rows that are swapped as blocks of cells
module _ {T : Type 0} (m n a b : ℕ) (old new : List T) (h : HoldsSize m n (length old)) where
  apart : (i r c : ℕ) → r ≢ i → c < n → i * n ≤ r * n + c → i * n + n ≤ r * n + c
  apart i r c ne lc le =
      ⊎_elim {C = i * n + n ≤ r * n + c} (λ (lt : r < i). let below : r + 1 ≤ i = omega arith in absurd (omega (arith, mul-le-mul_right n below)))
      (λ ge. let above : i + 1 ≤ r = omega arith in omega (arith, mul-le-mul_right n above)) (cases_lt r i)

  pub rows_by_blocks : a < m → b < m → BlocksSwapped (a * n) (b * n) n old new → table_of RowMajor m n new ≡ swap (table_of RowMajor m n old) a b
  rows_by_blocks la lb w =
      let k : HoldsSize m n (length new) = rw w.length_stays h in
      let rows = view-rows RowMajor m n old h in
      let cols = view-cols RowMajor m n old h in
      swapped_rows _ _ (view-table RowMajor m n old h) (view-table RowMajor m n new k) (view-rows RowMajor m n new k ∙ sym rows) (view-cols RowMajor m n new k ∙ sym cols) a b (omega arith) (omega arith)
      (λ r c lr lc.
      let r_in : r < m = omega arith in
      let c_in : c < n = omega arith in
      view-cell RowMajor m n new k r c r_in c_in
      ∙ (partner_cases (λ p. slice_get new (r * n + c) ≡ slice_get old (p * n + c)) a b r
      (λ e. ap (λ x. slice_get new (x * n + c)) e ∙ w.second c c_in)
      (λ _ e. ap (λ x. slice_get new (x * n + c)) e ∙ w.first c c_in)
      (λ nb na. w.others (r * n + c) (apart a r c na c_in) (apart b r c nb c_in))
      ∙ sym (view-cell RowMajor m n old h (partner a b r) c (partner_within a b r m la lb r_in) c_in)))

-- columns that are swapped as rows of the transposed table
pub cols_by_rows : {T : Type 0} (t : List (List T)) (h : IsTable t) (a b : ℕ) (u v : List (List T)) → IsTable u → IsTable v → a < col_count t → b < col_count t → u ≡ swap (act Transpose t) a b → v ≡ act Transpose u → row_count v ≡ row_count t → col_count v ≡ col_count t → v ≡ cols_swapped a b t
cols_by_rows t h a b u v hu hv la lb swapped back rows cols =
    let turned = act Transpose t in
    let u_rows : row_count u ≡ col_count t = ap row_count swapped ∙ (length-swap turned a b ∙ rows-act Transpose t) in
    let u_cols : col_count u ≡ row_count t = omega (arith, rows, ap row_count back, rows-act Transpose u) in
    swapped_cols t v h hv rows cols a b la lb
    (λ r c lr lc.
    ap (λ x. cell x r c) back
    ∙ (cell-act Transpose u r c hu (omega arith) (omega arith)
    ∙ (ap (λ x. cell x c r) swapped
    ∙ (ap (λ x. slice_get x r) (get_or-same (swap turned a b) turned c (partner a b c) [] (get-swap turned a b c (omega (arith, rows-act Transpose t)) (omega (arith, rows-act Transpose t))))
    ∙ cell-act Transpose t (partner a b c) r h (partner_within a b c _ la lb lc) lr))))

-- cells that are exchanged one by one
module _ {T : Type 0} where
  -- a cell that may be missing is written
  of-same : (t : List (List T)) → IsTable t → (r c : ℕ) (o : Option T) → r < row_count t → c < col_count t → IsSome o → cell (with_cell_of t r c o) r c ≡ o
  of-same t h r c None lr lc some = absurd (cc)
  of-same t h r c (Some w) lr lc some = cell-with_same t h r c w lr lc

  of-other : (t : List (List T)) → IsTable t → (r c : ℕ) (o : Option T) (i j : ℕ) → (i ≡ r → j ≢ c) → cell (with_cell_of t r c o) i j ≡ cell t i j
  of-other t h r c None i j ne = refl
  of-other t h r c (Some w) i j ne = cell-with_other t r c w i j ne

  some_cell : (t : List (List T)) → IsTable t → (r c : ℕ) → r < row_count t → c < col_count t → IsSome (cell t r c)
  some_cell t h r c lr lc = IsSome_within (row t r) c (omega (arith, h.even r lr))

  -- two rows of which the cells of a column are exchanged
  module _ (t : List (List T)) (h : IsTable t) (a b k : ℕ) (la : a < row_count t) (lb : b < row_count t) (lk : k < col_count t) where
    once : List (List T)
    once = with_cell_of t a k (cell t b k)

    pub rows_exchanged : (i : ℕ) → cell (exchanged t (a, k) (b, k)) i k ≡ cell t (partner a b i) k
    unfolding once
    rows_exchanged i =
        let once_table = IsTable-with_cell_of t h a k (cell t b k) in
        partner_cases (λ p. cell (exchanged t (a, k) (b, k)) i k ≡ cell t p k) a b i
        (λ e.
        ap (λ x. cell (exchanged t (a, k) (b, k)) x k) e
        ∙ of-same once once_table b k (cell t a k) (omega (arith, rows-with_cell_of t h a k (cell t b k))) (omega (arith, cols-with_cell_of t h a k (cell t b k))) (some_cell t h a k la lk))
        (λ nb e.
        of-other once once_table b k (cell t a k) i k (λ f. absurd (nb f))
        ∙ (ap (λ x. cell once x k) e ∙ of-same t h a k (cell t b k) la lk (some_cell t h b k lb lk)))
        (λ nb na. of-other once once_table b k (cell t a k) i k (λ f. absurd (nb f)) ∙ of-other t h a k (cell t b k) i k (λ f. absurd (na f)))

    pub others_kept : (i j : ℕ) → j ≢ k → cell (exchanged t (a, k) (b, k)) i j ≡ cell t i j
    unfolding once
    others_kept i j ne = of-other once (IsTable-with_cell_of t h a k (cell t b k)) b k (cell t a k) i j (λ _. ne) ∙ of-other t h a k (cell t b k) i j (λ _. ne)

-- a table in which the first k cells of two rows have changed places
pub record RowsSwapping {T : Type 0} (a b k : ℕ) (old now : GridValue T) : Type 0 where
  pub order : now.order ≡ old.order
  pub rows : row_count now.rows ≡ row_count old.rows
  pub cols : col_count now.rows ≡ col_count old.rows
  pub swapped : (i j : ℕ) → j < k → cell now.rows i j ≡ cell old.rows (partner a b i) j
  pub left : (i j : ℕ) → k ≤ j → cell now.rows i j ≡ cell old.rows i j

module _ {T : Type 0} (a b k : ℕ) (old now : GridValue T) (h : RowsSwapping a b k old now) (la : a < row_count old.rows) (lb : b < row_count old.rows) where
  pub rows_next : (new : GridValue T) → k < col_count old.rows → new.rows ≡ exchanged now.rows (a, k) (b, k) → row_count new.rows ≡ row_count now.rows → col_count new.rows ≡ col_count now.rows → new.order ≡ now.order → RowsSwapping a b (k + 1) old new
  rows_next new lk e rows cols order =
      let a_in : a < row_count now.rows = omega (arith, h.rows) in
      let b_in : b < row_count now.rows = omega (arith, h.rows) in
      let k_in : k < col_count now.rows = omega (arith, h.cols) in
      let kept : (i j : ℕ) → j ≢ k → cell new.rows i j ≡ cell now.rows i j = λ i j ne. ap (λ x. cell x i j) e ∙ others_kept now.rows now.table a b k a_in b_in k_in i j ne in
      record {
        order = order ∙ h.order;
        rows = rows ∙ h.rows;
        cols = cols ∙ h.cols;
        swapped = λ i j lj.
            ⊎_elim (λ lt. kept i j (omega arith) ∙ h.swapped i j lt)
            (λ ge.
            let at : j ≡ k = omega arith in
            ap (cell new.rows i) at
            ∙ (ap (λ x. cell x i k) e ∙ (rows_exchanged now.rows now.table a b k a_in b_in k_in i ∙ (h.left (partner a b i) k (omega arith) ∙ ap (cell old.rows (partner a b i)) (sym at)))))
            (cases_lt j k);
        left = λ i j le. kept i j (omega arith) ∙ h.left i j (omega arith);
      }

  pub rows_done : k ≡ col_count old.rows → now.rows ≡ swap old.rows a b
  rows_done e = swapped_rows old.rows now.rows old.table now.table h.rows h.cols a b la lb (λ r c lr lc. h.swapped r c (omega arith))
