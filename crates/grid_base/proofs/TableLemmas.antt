-- Lemmas on tables that are given by their cells.
use Rattle.std.proofs.Common.{◌≡◌, ℕ, zero, suc, ◌+◌, ◌<◌, ◌≤◌, Bool, true, false, Option, Some, None, List, [], ◌∷◌, length, refl, sym, ◌∙◌, ap, arith, ⊎_elim, IsSome, is_some}
use Rattle.std.specs.List.{filter_map, range_with_len, slice_get, cons_option}
use Rattle.std.proofs.lemmas.List.{get_or_past, ext_get_or}
use Rattle.std.proofs.lemmas.List.FromFn.{length-map-range_with_len, get_or-map-range_with_len}
use Rattle.std.proofs.lemmas.Option.{slice_get_past, slice_get_within}
use Rattle.std.proofs.lemmas.Bool.{cases_lt}
use Rattle.grid_base.specs.Lines.{counted}
use Rattle.grid_base.specs.Table.{row, row_count, col_count, cell, IsTable, IsSize, cells_by, tabulate, transposed, InRange}

pub length_cons : {T : Type 0} (o : Option T) (xs : List T) → IsSome o → length (cons_option o xs) ≡ suc (length xs)
length_cons None xs h = cc
length_cons (Some x) xs h = refl

get_cons_first : {T : Type 0} (o : Option T) (xs : List T) → IsSome o → slice_get (cons_option o xs) zero ≡ o
get_cons_first None xs h = cc
get_cons_first (Some x) xs h = refl

get_cons_rest : {T : Type 0} (o : Option T) (xs : List T) (k : ℕ) → IsSome o → slice_get (cons_option o xs) (suc k) ≡ slice_get xs k
get_cons_rest None xs k h = cc
get_cons_rest (Some x) xs k h = refl

-- the lists that filter_map makes where each item is there
length_from : {T : Type 0} (f : ℕ → Option T) (a n : ℕ) → ((j : ℕ) → a ≤ j → j < a + n → IsSome (f j)) → length (filter_map f (range_with_len a n)) ≡ n
length_from f a zero h = refl
length_from f a (suc n) h =
    length_cons (f a) _ (h a (omega arith) (omega arith)) ∙ ap suc (length_from f (a + 1) n (λ j lo hi. h j (omega arith) (omega arith)))

get_from : {T : Type 0} (f : ℕ → Option T) (a n k j : ℕ) → ((j : ℕ) → a ≤ j → j < a + n → IsSome (f j)) → k < n → a + k ≡ j → slice_get (filter_map f (range_with_len a n)) k ≡ f j
get_from f a zero k j h lt e = absurd (omega arith)
get_from f a (suc n) zero j h lt e =
    let same : a ≡ j = omega arith in
    get_cons_first (f a) _ (h a (omega arith) (omega arith)) ∙ ap f same
get_from f a (suc n) (suc k) j h lt e =
    get_cons_rest (f a) _ k (h a (omega arith) (omega arith))
    ∙ get_from f (a + 1) n k j (λ i lo hi. h i (omega arith) (omega arith)) (omega arith) (omega arith)

-- two lists with the same cells are equal
pub same_cells : {T : Type 0} (xs ys : List T) → length xs ≡ length ys → ((k : ℕ) → k < length xs → slice_get xs k ≡ slice_get ys k) → xs ≡ ys
same_cells [] [] e h = refl
same_cells [] (y ∷ ys) e h = absurd (omega arith)
same_cells (x ∷ xs) [] e h = absurd (omega arith)
same_cells (x ∷ xs) (y ∷ ys) e h =
    let head : ◌≡◌ {A = Option _} (Some x) (Some y) = h zero (omega arith) in
    let tail : xs ≡ ys = same_cells xs ys (omega arith) (λ k lt. h (suc k) (omega arith)) in
    cc

pub length-line : {T : Type 0} (n : ℕ) (f : ℕ → Option T) → ((k : ℕ) → k < n → IsSome (f k)) → length (cells_by n f) ≡ n
unfolding cells_by
length-line n f h = length_from f 0 n (λ j lo hi. h j (omega arith))

pub slice_get-line : {T : Type 0} (n : ℕ) (f : ℕ → Option T) (k : ℕ) → ((k : ℕ) → k < n → IsSome (f k)) → k < n → slice_get (cells_by n f) k ≡ f k
unfolding cells_by
slice_get-line n f k h lt = get_from f 0 n k k (λ j lo hi. h j (omega arith)) lt (omega arith)

-- each of the m times n cells is there
pub record IsFull {T : Type 0} (m n : ℕ) (f : ℕ → ℕ → Option T) : Type 0 where
  pub full : (r c : ℕ) → r < m → c < n → IsSome (f r c)

pub rows-tabulate : {T : Type 0} (m n : ℕ) (f : ℕ → ℕ → Option T) → length (tabulate m n f) ≡ m
unfolding tabulate
rows-tabulate m n f = length-map-range_with_len _ 0 m

pub rows-transposed : {T : Type 0} (t : List (List T)) → row_count (transposed t) ≡ col_count t
rows-transposed t = rows-tabulate (col_count t) (row_count t) (λ c r. cell t r c)

pub row-tabulate : {T : Type 0} (m n : ℕ) (f : ℕ → ℕ → Option T) (r : ℕ) → r < m → row (tabulate m n f) r ≡ cells_by n (f r)
unfolding tabulate
row-tabulate m n f r lt = get_or-map-range_with_len (λ r. cells_by n (f r)) 0 m r r [] lt (omega arith)

pub width-tabulate : {T : Type 0} (m n : ℕ) (f : ℕ → ℕ → Option T) (r : ℕ) → IsFull m n f → r < m → length (row (tabulate m n f) r) ≡ n
width-tabulate m n f r h lt = ap length (row-tabulate m n f r lt) ∙ length-line n (f r) (λ k l. h.full r k lt l)

pub cell-tabulate : {T : Type 0} (m n : ℕ) (f : ℕ → ℕ → Option T) (r c : ℕ) → IsFull m n f → r < m → c < n → cell (tabulate m n f) r c ≡ f r c
cell-tabulate m n f r c h lt l = ap (λ x. slice_get x c) (row-tabulate m n f r lt) ∙ slice_get-line n (f r) c (λ k l. h.full r k lt l) l

-- two tables of the same size with the same cells are equal
pub same_tables : {T : Type 0} (t u : List (List T)) → length t ≡ length u → ((r : ℕ) → r < length t → length (row t r) ≡ length (row u r)) → ((r c : ℕ) → r < length t → c < length (row t r) → cell t r c ≡ cell u r c) → t ≡ u
same_tables t u rows widths cells =
    ext_get_or [] t u rows (λ r lt. same_cells (row t r) (row u r) (widths r lt) (λ c l. cells r c lt l))

pub tabulate-same : {T : Type 0} (m n : ℕ) (f g : ℕ → ℕ → Option T) → ((r c : ℕ) → r < m → c < n → f r c ≡ g r c) → IsFull m n g → tabulate m n f ≡ tabulate m n g
tabulate-same m n f g same h =
    let full : IsFull m n f = record { full = λ r c lr lc. ap is_some (same r c lr lc) ∙ h.full r c lr lc } in
    same_tables _ _ (rows-tabulate m n f ∙ sym (rows-tabulate m n g))
    (λ r lt. let l : r < m = omega (arith, rows-tabulate m n f) in width-tabulate m n f r full l ∙ sym (width-tabulate m n g r h l))
    (λ r c lt lc.
    let l : r < m = omega (arith, rows-tabulate m n f) in
    let k : c < n = omega (arith, width-tabulate m n f r full l) in
    cell-tabulate m n f r c full l k ∙ (same r c l k ∙ sym (cell-tabulate m n g r c h l k)))

pub zero_by : (n : ℕ) → (0 < n → 0 < 0) → 0 ≡ n
zero_by zero h = refl
zero_by (suc n) h = absurd (omega (arith, h (omega arith)))

pub cols-tabulate : {T : Type 0} (m n : ℕ) (f : ℕ → ℕ → Option T) → IsSize m n → IsFull m n f → col_count (tabulate m n f) ≡ n
unfolding tabulate
cols-tabulate zero n f s h = zero_by n s.has_rows
cols-tabulate (suc m) n f s h = width-tabulate (suc m) n f 0 h (omega arith)

pub IsTable-tabulate : {T : Type 0} (m n : ℕ) (f : ℕ → ℕ → Option T) → IsSize m n → IsFull m n f → IsTable (tabulate m n f)
IsTable-tabulate m n f s h =
    let rows = rows-tabulate m n f in
    record {
      nonempty = λ r lt. omega (arith, width-tabulate m n f r h (omega arith), s.has_cols (omega arith));
      even = λ r lt. width-tabulate m n f r h (omega arith) ∙ sym (width-tabulate m n f 0 h (omega arith));
    }

pub IsSome_within : {T : Type 0} (xs : List T) (k : ℕ) → k < length xs → IsSome (slice_get xs k)
IsSome_within [] k lt = absurd (omega arith)
IsSome_within (x ∷ xs) zero lt = refl
IsSome_within (x ∷ xs) (suc k) lt = IsSome_within xs k (omega arith)

pub IsFull-cells : {T : Type 0} (t : List (List T)) → IsTable t → IsFull (row_count t) (col_count t) (cell t)
IsFull-cells t h = record { full = λ r c lr lc. IsSome_within (row t r) c (omega (arith, h.even r lr)) }

pub IsSize-table : {T : Type 0} (t : List (List T)) → IsTable t → IsSize (row_count t) (col_count t)
IsSize-table [] h = record { has_cols = λ e. e; has_rows = λ e. e }
IsSize-table (x ∷ xs) h = record { has_cols = λ e. h.nonempty 0 (omega arith); has_rows = λ e. omega arith }

-- a table is what its cells make
pub tabulate-cells : {T : Type 0} (t : List (List T)) → IsTable t → tabulate (row_count t) (col_count t) (cell t) ≡ t
tabulate-cells t h =
    let full = IsFull-cells t h in
    let m = row_count t in
    let n = col_count t in
    let rows = rows-tabulate m n (cell t) in
    same_tables _ t rows
    (λ r lt. let l : r < m = omega arith in width-tabulate m n (cell t) r full l ∙ sym (h.even r l))
    (λ r c lt lc. let l : r < m = omega arith in
    let k : c < n = omega (arith, width-tabulate m n (cell t) r full l) in cell-tabulate m n (cell t) r c full l k)

pub cell_past_cols : {T : Type 0} (m n : ℕ) (f : ℕ → ℕ → Option T) (r c : ℕ) → IsFull m n f → r < m → n ≤ c → cell (tabulate m n f) r c ≡ None
cell_past_cols m n f r c h lr lc = slice_get_past (row (tabulate m n f) r) c (omega (arith, width-tabulate m n f r h lr))

pub cell_past_rows : {T : Type 0} (t : List (List T)) (r c : ℕ) → length t ≤ r → cell t r c ≡ None
cell_past_rows t r c h = ap (λ x. slice_get x c) (get_or_past t r [] h)

-- a table has no cell past its columns, and a position with a cell is in range
pub past_cols : {T : Type 0} (t : List (List T)) → IsTable t → (r c : ℕ) → col_count t ≤ c → cell t r c ≡ None
past_cols t h r c le =
    ⊎_elim (λ lt. slice_get_past (row t r) c (omega (arith, h.even r lt))) (λ ge. cell_past_rows t r c ge) (cases_lt r (row_count t))

pub cell_in_range : {T : Type 0} (t : List (List T)) → IsTable t → (r c : ℕ) (x : T) → cell t r c ≡ Some x → InRange t r c
cell_in_range {T} t h r c x e =
    ⊎_elim (λ lt.
    let low : c < length (row t r) = slice_get_within (row t r) c x e in
    let even : length (row t r) ≡ length (row t 0) = h.even r lt in
    let ok : c < col_count t = omega arith in
    (lt, ok))
    (λ ge. let none : cell t r c ≡ None = cell_past_rows t r c ge in let clash : ◌≡◌ {A = Option T} None (Some x) = sym none ∙ e in absurd (cc))
    (cases_lt r (row_count t))

-- an index that is counted is within
pub counted_within : (b : Bool) (n k : ℕ) → k < n → counted b n k < n
counted_within true n k lt = omega arith
counted_within false n k lt = lt
