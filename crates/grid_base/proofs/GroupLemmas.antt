-- The eight symmetries are a group, and a word acts as one of them.
use Rattle.std.proofs.Common.{◌≡◌, ℕ, ◌+◌, ◌<◌, zero, suc, Option, List, [], ◌∷◌, ◌++◌, ◌*◌, unwrap_or, length, take, get_or, map, fold, find, nat_eq, Bool, true, false, not, ◌≢◌, ◌↔◌, if◌then◌else◌, refl, sym, ◌∙◌, ap, arith}
use Rattle.grid_base.proofs.Common.{beq, take_more, map-append, pointwise, row, row_count, col_count, cell, IsTable, IsSize, cells_by, tabulate, flipped, transposes, source_row, source_col, image_rows, image_cols, act, act_all, test_table, symmetries, symmetry_of, order_after, IsThen, IsInverse, flags_of, from_flags, of_move, word_image, IsNormalForm, ActAlike}
use Rattle.std.proofs.lemmas.Grind.{fold-append}
use Rattle.grid_base.specs.declared.words.Symmetry.{Symmetry}
use Rattle.grid_base.specs.declared.words.Symmetry.TheVariants.{Identity, FlipCols, FlipRows, RotateHalf, Transpose, RotateLeft, RotateRight, AntiTranspose}
use Rattle.grid_base.specs.declared.words.Move.{Move}
use Rattle.grid_base.specs.declared.order.Order.{Order}
use Rattle.grid_base.specs.declared.order.Order.TheVariants.{RowMajor, ColumnMajor}
use Rattle.grid_base.proofs.TableLemmas.{tabulate-same, IsFull, IsFull-cells, IsSize-table, tabulate-cells}
use Rattle.grid_base.proofs.ActLemmas.{act-tabulate, image_cell, IsFull-image, IsSize-image, IsTable-act}

-- the symmetry that is s and then u: a transpose exchanges the flips that are before it
abbrev pub product : Symmetry → Symmetry → Symmetry
product s u =
    if (flags_of u).0
    then from_flags (not (flags_of s).0) (not (beq (flags_of s).2 (flags_of u).1)) (not (beq (flags_of s).1 (flags_of u).2))
    else from_flags (flags_of s).0 (not (beq (flags_of s).1 (flags_of u).1)) (not (beq (flags_of s).2 (flags_of u).2))

-- where a cell of the image of the image comes from
record SameSource (s u : Symmetry) (m n i j : ℕ) : Type 0 where
  row : source_row s m n (source_row u (image_rows s m n) (image_cols s m n) i j) (source_col u (image_rows s m n) (image_cols s m n) i j) ≡ source_row (product s u) m n i j
  col : source_col s m n (source_row u (image_rows s m n) (image_cols s m n) i j) (source_col u (image_rows s m n) (image_cols s m n) i j) ≡ source_col (product s u) m n i j

-- the diagonal is named so that the last line is checked at each of the other pairs
same_source : (s u : Symmetry) (m n i j : ℕ) → i < image_rows u (image_rows s m n) (image_cols s m n) → j < image_cols u (image_rows s m n) (image_cols s m n) → SameSource s u m n i j
same_source Identity Identity m n i j p q = record { row = omega arith; col = omega arith }
same_source FlipCols FlipCols m n i j p q = record { row = omega arith; col = omega arith }
same_source FlipRows FlipRows m n i j p q = record { row = omega arith; col = omega arith }
same_source RotateHalf RotateHalf m n i j p q = record { row = omega arith; col = omega arith }
same_source Transpose Transpose m n i j p q = record { row = omega arith; col = omega arith }
same_source RotateLeft RotateLeft m n i j p q = record { row = omega arith; col = omega arith }
same_source RotateRight RotateRight m n i j p q = record { row = omega arith; col = omega arith }
same_source AntiTranspose AntiTranspose m n i j p q = record { row = omega arith; col = omega arith }
same_source s u m n i j p q = record { row = omega arith; col = omega arith }

-- the size of the image of the image, and whether rows have become columns
record SameImage (s u : Symmetry) (m n : ℕ) : Type 0 where
  rows : image_rows u (image_rows s m n) (image_cols s m n) ≡ image_rows (product s u) m n
  cols : image_cols u (image_rows s m n) (image_cols s m n) ≡ image_cols (product s u) m n
  turns : transposes (product s u) ≡ not (beq (transposes s) (transposes u))

same_image : (s u : Symmetry) (m n : ℕ) → SameImage s u m n
same_image Identity Identity m n = record { rows = refl; cols = refl; turns = refl }
same_image FlipCols FlipCols m n = record { rows = refl; cols = refl; turns = refl }
same_image FlipRows FlipRows m n = record { rows = refl; cols = refl; turns = refl }
same_image RotateHalf RotateHalf m n = record { rows = refl; cols = refl; turns = refl }
same_image Transpose Transpose m n = record { rows = refl; cols = refl; turns = refl }
same_image RotateLeft RotateLeft m n = record { rows = refl; cols = refl; turns = refl }
same_image RotateRight RotateRight m n = record { rows = refl; cols = refl; turns = refl }
same_image AntiTranspose AntiTranspose m n = record { rows = refl; cols = refl; turns = refl }
same_image s u m n = record { rows = refl; cols = refl; turns = refl }

flipped_by : (a b : Bool) (o : Order) → (if b then flipped (if a then flipped o else o) else (if a then flipped o else o)) ≡ (if not (beq a b) then flipped o else o)
flipped_by true true RowMajor = refl
flipped_by true true ColumnMajor = refl
flipped_by true false o = refl
flipped_by false true o = refl
flipped_by false false o = refl

pub order_after-order_after : (s u : Symmetry) (o : Order) → order_after u (order_after s o) ≡ order_after (product s u) o
order_after-order_after s u o = flipped_by (transposes s) (transposes u) o ∙ ap (λ b. if b then flipped o else o) (sym (same_image s u 0 0).turns)

act_twice : {T : Type 0} (s u : Symmetry) (m n : ℕ) (f : ℕ → ℕ → Option T) → IsSize m n → IsFull m n f → act u (act s (tabulate m n f)) ≡ act (product s u) (tabulate m n f)
act_twice s u m n f z h =
    let size = same_image s u m n in
    let from_row = source_row u (image_rows s m n) (image_cols s m n) in
    let from_col = source_col u (image_rows s m n) (image_cols s m n) in
    ap (act u) (act-tabulate s m n f z h)
    ∙ (act-tabulate u _ _ (image_cell s m n f) (IsSize-image s m n z) (IsFull-image s m n f h)
    ∙ (tabulate-same _ _ _ (image_cell (product s u) m n f)
    (λ i j p q.
    let e = same_source s u m n i j p q in
    ap (λ x. f x (source_col s m n (from_row i j) (from_col i j))) e.row ∙ ap (f (source_row (product s u) m n i j)) e.col)
    (rw (size.rows, size.cols) (IsFull-image (product s u) m n f h))
    ∙ (rw (size.rows, size.cols) (sym (act-tabulate (product s u) m n f z h)))))

-- acting by s and then by u is acting by their product
pub act-act : {T : Type 0} (s u : Symmetry) (t : List (List T)) → IsTable t → act u (act s t) ≡ act (product s u) t
act-act s u t h =
    let e = tabulate-cells t h in
    rw e at (act_twice s u (row_count t) (col_count t) (cell t) (IsSize-table t h) (IsFull-cells t h))

pub act-identity : {T : Type 0} (t : List (List T)) → IsTable t → act Identity t ≡ t
unfolding act
act-identity t h = tabulate-cells t h

-- the first two cells and the number of rows tell the image of the test table
abbrev mark : List (List ℕ) → ℕ
mark t = length t * 100 + (unwrap_or (cell t 0 0) 0 * 10 + unwrap_or (cell t 0 1) 0)

from_mark : (s u : Symmetry) → mark (act s test_table) ≡ mark (act u test_table) → s ≡ u
unfolding act tabulate cells_by
from_mark Identity Identity h = refl
from_mark FlipCols FlipCols h = refl
from_mark FlipRows FlipRows h = refl
from_mark RotateHalf RotateHalf h = refl
from_mark Transpose Transpose h = refl
from_mark RotateLeft RotateLeft h = refl
from_mark RotateRight RotateRight h = refl
from_mark AntiTranspose AntiTranspose h = refl
from_mark s u h = absurd (omega (arith, h))

-- two symmetries that give one image of the test table are one
pub same_by_test : (s u : Symmetry) → act s test_table ≡ act u test_table → s ≡ u
same_by_test s u h = from_mark s u (ap mark h)

pub IsTable-test : IsTable test_table
IsTable-test = record { nonempty = by_row; even = even_by_row }
  where
    by_row : (r : ℕ) → r < 2 → 0 < length (row test_table r)
    by_row zero h = omega arith
    by_row (suc zero) h = omega arith
    by_row (suc (suc r)) h = absurd (omega arith)

    even_by_row : (r : ℕ) → r < 2 → length (row test_table r) ≡ length (row test_table 0)
    even_by_row zero h = refl
    even_by_row (suc zero) h = refl
    even_by_row (suc (suc r)) h = absurd (omega arith)

-- what `then` and `inverse` ensure, by the product
pub then_is : (s u v : Symmetry) → IsThen s u v → v ≡ product s u
then_is s u v h = same_by_test v (product s u) (h.acts test_table IsTable-test ∙ act-act s u test_table IsTable-test)

pub IsThen-product : (s u : Symmetry) → IsThen s u (product s u)
IsThen-product s u = record { acts = λ t h. sym (act-act s u t h) }

-- on tables of any cells
pub then_acts : {T : Type 0} (s u v : Symmetry) → IsThen s u v → (t : List (List T)) → IsTable t → act v t ≡ act u (act s t)
then_acts s u v e t h = ap (λ x. act x t) (then_is s u v e) ∙ sym (act-act s u t h)

pub inverse_of : (s v : Symmetry) → product s v ≡ Identity → IsInverse s v
inverse_of s v e = record { undoes = λ t h. act-act s v t h ∙ (ap (λ x. act x t) e ∙ act-identity t h) }

pub inverse_is : (s v : Symmetry) → IsInverse s v → product s v ≡ Identity
inverse_is s v h =
    same_by_test (product s v) Identity
    (sym (act-act s v test_table IsTable-test) ∙ (h.undoes test_table IsTable-test ∙ sym (act-identity test_table IsTable-test)))

-- on tables of any cells
pub inverse_acts : {T : Type 0} (s v : Symmetry) → IsInverse s v → (t : List (List T)) → IsTable t → act v (act s t) ≡ t
inverse_acts s v e t h = act-act s v t h ∙ (ap (λ x. act x t) (inverse_is s v e) ∙ act-identity t h)

self_inverse : (s : Symmetry) → s ≢ RotateLeft → s ≢ RotateRight → product s s ≡ Identity
self_inverse RotateLeft h k = absurd (h refl)
self_inverse RotateRight h k = absurd (k refl)
self_inverse s h k = refl

pub inverse_by_self : (s : Symmetry) → s ≢ RotateLeft → s ≢ RotateRight → IsInverse s s
inverse_by_self s h k = inverse_of s s (self_inverse s h k)

-- the laws of a group: each follows from what the products do to the test table
pub product_assoc : (s u v : Symmetry) → product (product s u) v ≡ product s (product u v)
product_assoc s u v =
    let t = IsTable-test in
    same_by_test _ _
    (sym (act-act (product s u) v test_table t)
    ∙ (ap (act v) (sym (act-act s u test_table t))
    ∙ (act-act u v (act s test_table) (IsTable-act s test_table t) ∙ act-act s (product u v) test_table t)))

pub product_identity : (s : Symmetry) → product s Identity ≡ s
product_identity Identity = refl
product_identity s = refl

pub identity_product : (s : Symmetry) → product Identity s ≡ s
identity_product Identity = refl
identity_product s = refl

-- an inverse on the right is one on the left
pub inverse_left : (s v : Symmetry) → product s v ≡ Identity → product v s ≡ Identity
inverse_left Identity Identity h = refl
inverse_left FlipCols FlipCols h = refl
inverse_left FlipRows FlipRows h = refl
inverse_left RotateHalf RotateHalf h = refl
inverse_left Transpose Transpose h = refl
inverse_left RotateLeft RotateRight h = refl
inverse_left RotateRight RotateLeft h = refl
inverse_left AntiTranspose AntiTranspose h = refl
inverse_left s v h = cc h

-- symmetries that act one after another, joined from s on
abbrev pub product_from : Symmetry → List Symmetry → Symmetry
product_from s ss = fold product s ss

pub act_all-act : {T : Type 0} (ss : List Symmetry) (s : Symmetry) (t : List (List T)) → IsTable t → act_all ss (act s t) ≡ act (product_from s ss) t
act_all-act [] s t h = refl
act_all-act (u ∷ ss) s t h = ap (act_all ss) (act-act s u t h) ∙ act_all-act ss (product s u) t h

pub act_all-is : {T : Type 0} (ss : List Symmetry) (t : List (List T)) → IsTable t → act_all ss t ≡ act (product_from Identity ss) t
act_all-is ss t h = sym (ap (act_all ss) (act-identity t h)) ∙ act_all-act ss Identity t h

-- the search by the test table finds the symmetry
found : (s : Symmetry) → unwrap_or (find (λ u. pointwise (pointwise nat_eq) (act u test_table) (act s test_table)) symmetries) Identity ≡ s
unfolding act tabulate cells_by
found Identity = refl
found s = refl

pub symmetry_of-product_from : (ss : List Symmetry) → symmetry_of ss ≡ product_from Identity ss
unfolding symmetry_of
symmetry_of-product_from ss =
    ap (λ t. unwrap_or (find (λ u. pointwise (pointwise nat_eq) (act u test_table) t) symmetries) Identity) (act_all-is ss test_table IsTable-test)
    ∙ found (product_from Identity ss)

pub symmetry_of-more : (ss : List Symmetry) (s : Symmetry) → symmetry_of (ss ++ s ∷ []) ≡ product (symmetry_of ss) s
symmetry_of-more ss s =
    symmetry_of-product_from (ss ++ s ∷ []) ∙ (fold-append product Identity ss (s ∷ []) ∙ ap (λ x. product x s) (sym (symmetry_of-product_from ss)))

-- the symmetry of a word
abbrev pub word_symmetry : List Move → Symmetry
word_symmetry w = product_from Identity (map of_move w)

-- a word acts as its symmetry, on tables of any cells
pub word-acts : {T : Type 0} (w : List Move) (t : List (List T)) → IsTable t → word_image w t ≡ act (word_symmetry w) t
word-acts w t h = act_all-is (map of_move w) t h

pub normal_is : (w : List Move) (s : Symmetry) → IsNormalForm w s → s ≡ word_symmetry w
normal_is w s e = same_by_test s (word_symmetry w) (sym e ∙ word-acts w test_table IsTable-test)

-- a word acts as its normal form, on tables of any cells
pub normal-acts : {T : Type 0} (w : List Move) (s : Symmetry) (t : List (List T)) → IsTable t → IsNormalForm w s → word_image w t ≡ act s t
normal-acts w s t h e = word-acts w t h ∙ ap (λ x. act x t) (sym (normal_is w s e))

pub alike_normal : (w v : List Move) (s : Symmetry) → s ≡ word_symmetry w → IsNormalForm v s ↔ ActAlike w v
alike_normal w v s e = (
  λ n. record { same = λ t h. word-acts w t h ∙ (ap (λ x. act x t) (sym e) ∙ sym (normal-acts v s t h n)) },
  λ a. sym (a.same test_table IsTable-test) ∙ (word-acts w test_table IsTable-test ∙ ap (λ x. act x test_table) (sym e)),
)

pub word_symmetry-more : (w : List Move) (i : ℕ) (d : Move) → i < length w → word_symmetry (take (i + 1) w) ≡ product (word_symmetry (take i w)) (of_move (get_or w i d))
word_symmetry-more w i d h =
    ap word_symmetry (take_more w i d h)
    ∙ (ap (product_from Identity) (map-append of_move (take i w) (get_or w i d ∷ [])) ∙ fold-append product Identity (map of_move (take i w)) (of_move (get_or w i d) ∷ []))
