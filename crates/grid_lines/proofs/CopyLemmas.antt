-- Rows that are cloned into vectors, or moved there.
use Rattle.std.proofs.Common.{◌≡◌, ℕ, suc, ◌+◌, ◌<◌, ◌≤◌, Some, List, [], ◌∷◌, ◌++◌, length, take, drop, get_or, map, set, sym, ap, ◌∙◌, subst, arith, length-append, length-drop, add-one, drop-cons, take_all, get_or-set_other, length-set, slice_get}
use Rattle.grid_base.proofs.Common.{take-append_seam, drop-append_seam, take_more, take_more_set, drop_all, nil_from_length, length-map, map-set, same_from_all_zip, slice_get_within, AllZip, IsTable, row, col_count, concat_rows}
use Rattle.std.specs.declared.vec.Vec.{Vec}
use Rattle.grid_base.proofs.ClosureLemmas.{answers_more, take_next}
use Rattle.grid_base.proofs.StorageLemmas.{get-drop}
use Rattle.grid_lines.specs.Copied.{AreCopied, IsRoomFor}

-- the item that comes after the first k
next_is : {A : Type 0} (xs rest next : List A) (k : ℕ) (x : A) → rest ≡ drop k xs → rest ≡ x ∷ next → (slice_get xs k ≡ Some x) × (next ≡ drop (k + 1) xs)
next_is xs rest next k x e split =
    let at : slice_get xs k ≡ Some x = sym (get-drop k xs k 0 (omega arith)) ∙ ap (λ l. slice_get l 0) (sym e ∙ split) in
    let both : x ∷ next ≡ get_or xs k x ∷ drop (suc k) xs = sym split ∙ (e ∙ drop-cons xs k x (slice_get_within xs k x at)) in
    let later : next ≡ drop (suc k) xs = cc in
    (at, rw add-one later)

-- all rows are cloned
pub cloned_all : {T : Type 0} (is_clone : T → T → Type 0) (t copies : List (List T)) (k : ℕ) → length t ≤ k → AllZip (AllZip is_clone) (take k t) copies → AreCopied is_clone t copies
cloned_all is_clone t copies k all zip =
    let each : AllZip (AllZip is_clone) t copies = subst (λ l. AllZip (AllZip is_clone) l copies) (take_all k t all) zip in
    record {
      each = each;
      same = λ equal. same_from_all_zip (AllZip is_clone) t copies each (λ xs ys a. same_from_all_zip is_clone xs ys a equal);
    }

-- one more cell has moved, or there is none
pub moved_more : {A : Type 0} (xs got new rest next : List A) (k : ℕ) (x : A) → got ≡ take k xs → rest ≡ drop k xs → rest ≡ x ∷ next → new ≡ got ++ x ∷ [] → (new ≡ take (k + 1) xs) × (next ≡ drop (k + 1) xs)
moved_more xs got new rest next k x e f split is =
    let found = next_is xs rest next k x f split in
    (is ∙ (ap (λ l. l ++ x ∷ []) e ∙ sym (take_next xs k x found.0)), found.1)

pub moved_none : {A : Type 0} (xs got rest next : List A) (k : ℕ) → got ≡ take k xs → rest ≡ drop k xs → length rest ≡ 0 → length next ≡ 0 → (got ≡ take (k + 1) xs) × (next ≡ drop (k + 1) xs)
moved_none xs got rest next k e f none also =
    let all : length xs ≤ k = omega (arith, ap length f, length-drop k xs) in
    (e ∙ (take_all k xs all ∙ sym (take_all (k + 1) xs (omega arith))), nil_from_length next (omega arith) ∙ sym (drop_all (k + 1) xs (omega arith)))

module _ {T A : Type 0} (t : List (List T)) where
  -- the first k vectors hold their rows, the others have room, and the cells still to come are those of the other rows
  pub record Unpacking (k : ℕ) (rows : List (Vec T A)) (cells : List T) : Type 0 where
    pub count : length rows ≡ length t
    pub done : take k (map (λ v. v.items) rows) ≡ take k t
    pub ahead : (j : ℕ) (d : Vec T A) → k ≤ j → j < length rows → IsRoomFor (col_count t) (get_or rows j d)
    pub rest : cells ≡ concat_rows (drop k t)

  pub unpacking_more : (table : IsTable t) (k n : ℕ) (rows : List (Vec T A)) (cells next : List T) (v : Vec T A) → Unpacking k rows cells → k < length t → n ≡ col_count t → v.items ≡ take n cells → next ≡ drop n cells → Unpacking (k + 1) (set rows k v) next
  unpacking_more table k n rows cells next v u lt width is after =
      let here : k < length rows = omega (arith, u.count) in
      let long : n ≡ length (row t k) = width ∙ sym (table.even k lt) in
      let split : cells ≡ row t k ++ concat_rows (drop (suc k) t) = u.rest ∙ ap concat_rows (drop-cons t k [] lt) in
      let front : take n cells ≡ row t k = ap (take n) split ∙ (ap (λ j. take j (row t k ++ concat_rows (drop (suc k) t))) long ∙ take-append_seam (row t k) (concat_rows (drop (suc k) t))) in
      let back : drop n cells ≡ concat_rows (drop (suc k) t) = ap (drop n) split ∙ (ap (λ j. drop j (row t k ++ concat_rows (drop (suc k) t))) long ∙ drop-append_seam (row t k) (concat_rows (drop (suc k) t))) in
      let one : take (k + 1) (map (λ v. v.items) (set rows k v)) ≡ take k (map (λ v. v.items) rows) ++ v.items ∷ [] =
      ap (take (k + 1)) (map-set (λ v. v.items) rows k v) ∙ take_more_set (map (λ v. v.items) rows) k v.items (omega (arith, length-map rows (λ v. v.items))) in
      record {
        count = length-set rows k v ∙ u.count;
        done = one ∙ (ap (λ l. l ++ v.items ∷ []) u.done ∙ (ap (λ l. take k t ++ l ∷ []) (is ∙ front) ∙ sym (take_more t k [] lt)));
        ahead = λ j d ge low. let low' : j < length rows = omega (arith, length-set rows k v) in subst (IsRoomFor (col_count t)) (sym (get_or-set_other rows k j v d (λ e. absurd (omega arith)))) (u.ahead j d (omega arith) low');
        rest = after ∙ (back ∙ ap (λ j. concat_rows (drop j t)) (sym (add-one k)));
      }
