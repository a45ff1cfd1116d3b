-- What a table that is cut from cells says of its size and of each cell.
use Rattle.std.proofs.Common.{◌≡◌, ◌≢◌, ℕ, ◌*◌, ◌/◌, ◌%◌, ◌<◌, Some, List, [], length, All, replicate, sym, ◌∙◌, ap, arith, slice_get, mul-div_cancel, inl, inr, ⊎_elim}
use Rattle.grid.proofs.Common.{mul-mod_left, get_or-replicate, length-replicate, slice_get-get_or, cases_eq, row_count, col_count, cell, InRange, IsTable, storage, place, CanCut, length-storage, get-storage, place_within, none_by_storage, HasSize, EachCellIs}
use Rattle.grid_base.specs.declared.order.Order.{Order}

cancelled : (m k n : ℕ) → n ≢ 0 → m * n ≡ k * n → m ≡ k
cancelled m k n some e =
    let above : 0 < n = omega arith in
    sym (mul-div_cancel m {n = n} above) ∙ (ap (λ x. x / n) e ∙ mul-div_cancel k {n = n} above)

pub All-replicate : {T : Type 0} (n : ℕ) (d : T) → All (λ x. x ≡ d) (replicate n d)
All-replicate n d = λ k e lt. get_or-replicate n k d e (omega (arith, length-replicate n d))

-- no cells, whatever is asked of each
pub All-none : {T : Type 0} (P : T → Type 0) (cells : List T) → length cells ≡ 0 → All P cells
All-none P cells e = λ k d lt. absurd (omega arith)

module _ {T : Type 0} (o : Order) (m n : ℕ) (cells : List T) (t : List (List T)) (h : IsTable t) (stored : storage o t ≡ cells) (width : length cells ≢ 0 → col_count t ≡ n) (count : length cells ≡ m * n) where
  pub made_size : HasSize m n t
  made_size = record {
    none = λ e. none_by_storage o t h (ap length stored ∙ (count ∙ e));
    rows = λ some.
        let wide : col_count t ≡ n = width (λ e. some (sym count ∙ e)) in
        let product : row_count t * n ≡ m * n = ap (λ x. row_count t * x) (sym wide) ∙ (sym (length-storage o t h) ∙ (ap length stored ∙ count)) in
        cancelled (row_count t) m n (λ e. some (ap (λ x. m * x) e ∙ omega arith)) product;
    cols = λ some. width (λ e. some (sym count ∙ e));
  }

  pub made_cell : (r c : ℕ) → InRange t r c → cell t r c ≡ slice_get cells (place o (row_count t) (col_count t) r c)
  made_cell r c p = sym (get-storage o t r c h p.0 p.1) ∙ ap (λ x. slice_get x (place o (row_count t) (col_count t) r c)) stored

  pub made_fill : (d : T) → All (λ x. x ≡ d) cells → EachCellIs d t
  made_fill d all = λ r c p.
      let k = place o (row_count t) (col_count t) r c in
      let small : k < length cells = omega (arith, place_within o (row_count t) (col_count t) r c p.0 p.1, length-storage o t h, ap length stored) in
      made_cell r c p ∙ (slice_get-get_or cells k d small ∙ ap Some (all k d small))

-- the empty table stores no cells
pub length-storage_none : {T : Type 0} (o : Order) (t : List (List T)) → t ≡ [] → length (storage o t) ≡ 0
length-storage_none {T} o t e =
    let none : List (List T) = [] in
    let h : IsTable none = record { nonempty = λ r lt. absurd (omega arith); even = λ r lt. absurd (omega arith) } in
    ap (λ x. length (storage o x)) e ∙ (length-storage o none h ∙ omega arith)

-- m * n cells can be cut into rows of n
pub CanCut-cells : (len m n : ℕ) → len ≡ m * n → CanCut len n
CanCut-cells len m n e =
    ⊎_elim (λ none. inl (e ∙ (ap (λ x. m * x) none ∙ omega arith))) (λ some. inr (some, ap (λ x. x % n) e ∙ mul-mod_left m n)) (cases_eq n 0)
