-- Images of tables that are the same are the same, and which images of one table are.
use Rattle.std.proofs.Common.{◌≡◌, ℕ, ◌<◌, Bool, true, List, Some, refl, sym, ◌∙◌, ap, subst, arith}
use Rattle.std.specs.Cmp.{IsEquivalence, both_ways}
use Rattle.std.specs.Cmp.Lexicographic.{lists_equiv}
use lib.Pointwise.{pointwise}
use Rattle.grid.specs.Same.{sizes_agree}
use Rattle.grid_base.proofs.ActLemmas.{IsTable-act, rows-act, cols-act, cell-act}
use Rattle.grid_base.proofs.GroupLemmas.{act-act, act-identity}
use Rattle.grid_base.proofs.Lemmas.{product, product_assoc, product_identity}
use Rattle.grid_base.proofs.TableLemmas.{cell_in_range}
use Rattle.grid_base.specs.Symmetry.{act, image_rows, image_cols, source_row, source_col}
use Rattle.grid_base.specs.Table.{row, row_count, col_count, cell, IsTable}
use Rattle.grid_base.specs.declared.words.Symmetry.{Symmetry}
use Rattle.grid_view.proofs.SameLemmas.{same_at, row_at, tells_same}
use Rattle.grid_view.specs.Same.{AreSame}
use Rattle.grid_images.specs.Images.{same_table, takes, give_one_image}
use Rattle.grid_images.proofs.NumberLemmas.{undoing, undone, undone_before}

module _ {T : Type 0} (eq : T → T → Bool) where
  -- of tables that are the same each cell is
  pub cells_agree : (t u : List (List T)) (r c : ℕ) (x y : T) → r < row_count t → r < row_count u → cell t r c ≡ Some x → cell u r c ≡ Some y → same_table eq t u ≡ true → eq x y ≡ true
  cells_agree t u r c x y lt lt_too p q same =
      same_at eq (row t r) (row u r) c x y (same_at (pointwise eq) t u r (row t r) (row u r) same (row_at t r lt) (row_at u r lt_too)) p q

  cells_same : (s : Symmetry) (t u : List (List T)) (h : IsTable t) (k : IsTable u) (same : same_table eq t u ≡ true) → AreSame eq (act s t) (act s u) (0, row_count (act s t)) (0, col_count (act s t))
  cells_same s t u h k same =
      let sizes = sizes_agree eq t u same in
      let rows = rows-act s t in
      let cols = cols-act s t h in
      let rows_too = rows-act s u in
      let cols_too = cols-act s u k in
      record {
        at = λ r c a lr b lc x y p q.
            let in_rows : r < image_rows s (row_count t) (col_count t) = omega arith in
            let in_cols : c < image_cols s (row_count t) (col_count t) = omega arith in
            let in_rows_too : r < image_rows s (row_count u) (col_count u) = subst (λ (z : ℕ × ℕ). r < image_rows s z.0 z.1) (λ i. (sizes.0 i, sizes.1 i)) in_rows in
            let in_cols_too : c < image_cols s (row_count u) (col_count u) = subst (λ (z : ℕ × ℕ). c < image_cols s z.0 z.1) (λ i. (sizes.0 i, sizes.1 i)) in_cols in
            let from_row = source_row s (row_count t) (col_count t) r c in
            let from_col = source_col s (row_count t) (col_count t) r c in
            let here : cell t from_row from_col ≡ Some x = sym (cell-act s t r c h in_rows in_cols) ∙ p in
            let there : cell u from_row from_col ≡ Some y =
            (λ i. cell u (source_row s (sizes.0 i) (sizes.1 i) r c) (source_col s (sizes.0 i) (sizes.1 i) r c)) ∙ (sym (cell-act s u r c k in_rows_too in_cols_too) ∙ q) in
            let lt : from_row < row_count t = (cell_in_range t h from_row from_col x here).0 in
            let lt_too : from_row < row_count u = (cell_in_range u k from_row from_col y there).0 in
            same_at eq (row t from_row) (row u from_row) from_col x y
            (same_at (pointwise eq) t u from_row (row t from_row) (row u from_row) same (row_at t from_row lt) (row_at u from_row lt_too)) here there;
      }

  -- a symmetry takes tables that are the same to tables that are
  pub images_same : (s : Symmetry) (t u : List (List T)) → IsTable t → IsTable u → same_table eq t u ≡ true → same_table eq (act s t) (act s u) ≡ true
  images_same s t u h k same =
      let sizes = sizes_agree eq t u same in
      let rows : row_count (act s t) ≡ row_count (act s u) = rows-act s t ∙ ((λ i. image_rows s (sizes.0 i) (sizes.1 i)) ∙ sym (rows-act s u)) in
      let cols : col_count (act s t) ≡ col_count (act s u) = cols-act s t h ∙ ((λ i. image_cols s (sizes.0 i) (sizes.1 i)) ∙ sym (cols-act s u k)) in
      sym
      (tells_same eq (act s t) (act s u) (IsTable-act s t h) (IsTable-act s u k) (row_count (act s t)) (col_count (act s t)) refl rows refl cols true
      (λ _. cells_same s t u h k same, λ _. refl))

module _ {T : Type 0} {eq : T → T → Bool} (laws : IsEquivalence eq) where
  pub tables_equiv : IsEquivalence (same_table eq)
  tables_equiv = lists_equiv (lists_equiv laws)

  -- what a symmetry makes of an image
  pub back : (s : Symmetry) (t : List (List T)) → IsTable t → act (undoing s) (act s t) ≡ t
  back s t h = act-act s (undoing s) t h ∙ (ap (λ v. act v t) (undone s) ∙ act-identity t h)

  pub forth : (s u : Symmetry) (t : List (List T)) → IsTable t → act s (act (product u (undoing s)) t) ≡ act u t
  forth s u t h =
      act-act (product u (undoing s)) s t h
      ∙ ap (λ v. act v t) (product_assoc u (undoing s) s ∙ (ap (product u) (undone_before s) ∙ product_identity u))

  -- two symmetries give the same image exactly if the one and what undoes the other leave the table
  -- as it is
  pub one_image : (s u : Symmetry) (t : List (List T)) → IsTable t → give_one_image eq t s u ≡ takes eq t t (product u (undoing s))
  one_image s u t h = both_ways _ _ there here
    where
      there : give_one_image eq t s u ≡ true → takes eq t t (product u (undoing s)) ≡ true
      there e =
          let turned = images_same eq (undoing s) (act s t) (act u t) (IsTable-act s t h) (IsTable-act u t h) e in
          tables_equiv.symm (act (product u (undoing s)) t) t
          ∙ (sym (λ i. same_table eq (back s t h i) (act-act u (undoing s) t h i)) ∙ turned)

      here : takes eq t t (product u (undoing s)) ≡ true → give_one_image eq t s u ≡ true
      here e =
          let turned = images_same eq s (act (product u (undoing s)) t) t (IsTable-act (product u (undoing s)) t h) h e in
          tables_equiv.symm (act s t) (act u t) ∙ (sym (λ i. same_table eq (forth s u t h i) (act s t)) ∙ turned)
