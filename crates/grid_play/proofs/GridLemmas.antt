-- The grid that is made of cells in storage order is the one that a first line says.
use Rattle.std.proofs.Common.{◌≡◌, ◌≢◌, inl, inr, ℕ, ◌+◌, ◌*◌, ◌/◌, ◌%◌, ◌<◌, ◌^◌, true, Some, List, [], ◌∷◌, length, refl, ap, sym, ◌∙◌, arith, ℤ, div-add-mod'}
use Rattle.grid_base.proofs.Common.{zero-div, nat_tests, col_count, IsTable, storage, table_of, CanCut, HoldsSize}
use Rattle.grid_base.specs.declared.order.Order.{Order}
use Rattle.grid_base.proofs.ViewLemmas.{same_by_storage, none_by_storage, view-table, view-cols, view-storage}
use Rattle.grid_play.specs.Commands.{can_be_cut}
use Rattle.grid_play.specs.Script.{grid_from}
use Rattle.grid.proofs.EditViewLemmas.{table_of-no_rows}

pub can_be_cut_from : (count len : ℕ) → CanCut count len → can_be_cut count len ≡ true
can_be_cut_from count len (inl none) = rw none refl
can_be_cut_from count len (inr some) = grind (arith, nat_tests, some.0, some.1)

rows_of_some : (o : Order) (cols : ℕ) (cells : List ℤ) (t : List (List ℤ)) → 0 < cols → 0 < length cells → length cells < 2 ^ 64 → length cells % cols ≡ 0 → IsTable t → storage o t ≡ cells → col_count t ≡ cols → t ≡ table_of o (length cells / cols) cols cells
rows_of_some o cols cells t some full small even table same wide =
    let count : length cells / cols * cols + length cells % cols ≡ length cells = div-add-mod' (length cells) cols in
    let lens : length cells ≡ length cells / cols * cols = omega (arith, count, even) in
    let there : length cells / cols ≢ 0 = λ none. let none : length cells / cols * cols ≡ 0 = rw none (omega arith) in omega (arith, none, lens, full) in
    let rows : 0 < length cells / cols = omega (arith, there) in
    let size : HoldsSize (length cells / cols) cols (length cells) = record { cells = lens; below = omega (arith, lens, small); size = record { has_cols = λ _. some; has_rows = λ _. rows } } in
    same_by_storage o t _ table (view-table o _ cols cells size) (wide ∙ sym (view-cols o _ cols cells size)) (same ∙ sym (view-storage o _ cols cells size))

rows_are : (o : Order) (cols : ℕ) (cells : List ℤ) (t : List (List ℤ)) → CanCut (length cells) cols → length cells < 2 ^ 64 → IsTable t → storage o t ≡ cells → (length cells ≢ 0 → col_count t ≡ cols) → t ≡ table_of o (length cells / cols) cols cells
rows_are o cols [] t can small table same wide =
    none_by_storage o t table (ap length same) ∙ (sym (table_of-no_rows o cols []) ∙ ap (λ m. table_of o m cols []) (sym (zero-div cols)))
rows_are o cols (x ∷ cells) t (inl none) small table same wide = absurd (omega (arith, none))
rows_are o cols (x ∷ cells) t (inr some) small table same wide =
    rows_of_some o cols (x ∷ cells) t (omega (arith, some.0)) (omega arith) small some.1 table same (wide (λ e. omega (arith, e)))

pub grid_is : (o : Order) (cols : ℕ) (cells : List ℤ) (t : List (List ℤ)) (u : Order) → CanCut (length cells) cols → length cells < 2 ^ 64 → u ≡ o → IsTable t → storage o t ≡ cells → (length cells ≢ 0 → col_count t ≡ cols) → Some (record { rows = t; order = u }) ≡ grid_from o cols cells
grid_is o cols cells t u can small order table same wide =
    let rows = rows_are o cols cells t can small table same wide in
    let test = can_be_cut_from (length cells) cols can in
    rw test (ap (λ w. Some (record { rows = w; order = u })) rows ∙ ap (λ w. Some (record { rows = table_of o (length cells / cols) cols cells; order = w })) order)
