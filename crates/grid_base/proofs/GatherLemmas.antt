-- Lists whose items leave them for the end of another list, line by line.
use Rattle.std.proofs.Common.{◌≡◌, Vec, All, Option, None, ℕ, zero, suc, ◌+◌, ◌-◌, ◌<◌, ◌≤◌, Some, List, [], ◌∷◌, ◌++◌, length, get_or, take, drop, reverse, map, set, refl, sym, ◌∙◌, ap, arith, append_assoc, append-nil, length-append, subst, flat_map, slice_get, option_to_list, length-take-le, take_all, drop_at, take_at}
use Rattle.grid_base.proofs.Common.{reverse-append, length-map, map-set, get_or-map, take_more, drop_more, map-append, set-append_right, drop_all, flat_map-append, row, row_count, col_count, cell, concat_rows, transposed, IsTable, storage, items_of_each, last_of, before_last}
use Rattle.grid_base.specs.declared.order.Order.TheVariants.{ColumnMajor}
use Rattle.grid_base.proofs.TableLemmas.{IsFull, IsFull-cells, width-tabulate, cell-tabulate, same_cells, rows-transposed}

module _ {T : Type 0} where
  -- the first i lines have each given its part f, and are left as g says
  pub record Passed (f g : List T → List T) (i : ℕ) (from now : List (List T)) (start cells : List T) : Type 0 where
    pub given : cells ≡ start ++ flat_map f (take i from)
    pub left : now ≡ map g (take i from) ++ drop i from

  module _ (f g : List T → List T) (from now : List (List T)) (start cells : List T) where
    passed_more : (i : ℕ) (new : List (List T)) (more : List T) → Passed f g i from now start cells → i < row_count from → new ≡ set now i (g (row from i)) → more ≡ cells ++ f (row from i) → Passed f g (i + 1) from new start more
    passed_more i new more p lt e h =
        let next : take (i + 1) from ≡ take i from ++ row from i ∷ [] = take_more from i [] lt in
        let front : length (map g (take i from)) ≡ i = length-map (take i from) g ∙ length-take-le i from (omega arith) in
        let none : i - i ≡ 0 = omega arith in
        record {
          given =
              h
              ∙ (ap (λ xs. xs ++ f (row from i)) p.given
              ∙ (append_assoc start (flat_map f (take i from)) (f (row from i))
              ∙ ap (λ xs. start ++ xs)
              (sym (ap (flat_map f) next ∙ (flat_map-append f (take i from) (row from i ∷ []) ∙ ap (λ xs. flat_map f (take i from) ++ xs) (append-nil (f (row from i))))))));
          left =
              e
              ∙ (ap (λ t. set t i (g (row from i))) p.left
              ∙ (set-append_right (map g (take i from)) (drop i from) i i (g (row from i)) front (omega arith)
              ∙ (ap (λ k. map g (take i from) ++ set (drop i from) k (g (row from i))) none
              ∙ (ap (λ t. map g (take i from) ++ set t 0 (g (row from i))) (drop_more from i [] lt)
              ∙ (sym (append_assoc (map g (take i from)) (g (row from i) ∷ []) (drop (i + 1) from))
              ∙ ap (λ t. t ++ drop (i + 1) from) (sym (ap (map g) next ∙ map-append g (take i from) (row from i ∷ []))))))));
        }

    module _ (i : ℕ) (p : Passed f g i from now start cells) where
      -- the line that comes next is as it was
      passed_next : i < row_count from → row now i ≡ row from i
      passed_next lt =
          let front : length (map g (take i from)) ≡ i = length-map (take i from) g ∙ length-take-le i from (omega arith) in
          ap (λ t. row t i) (p.left ∙ ap (λ t. map g (take i from) ++ t) (drop_more from i [] lt)) ∙ seam (map g (take i from)) (drop (i + 1) from) (row from i) i front
        where
          seam : (xs ys : List (List T)) (y : List T) (i : ℕ) → length xs ≡ i → row (xs ++ y ∷ ys) i ≡ y
          seam [] ys y zero e = refl
          seam [] ys y (suc i) e = absurd (omega arith)
          seam (x ∷ xs) ys y zero e = absurd (omega arith)
          seam (x ∷ xs) ys y (suc i) e = seam xs ys y i (omega arith)

      passed_all : i ≡ row_count from → Passed f g (row_count from) from now start cells
      passed_all e = subst (λ x. Passed f g x from now start cells) e p

  passed_lines : (f g : List T → List T) (from now : List (List T)) (start cells : List T) → Passed f g (row_count from) from now start cells → now ≡ map g from
  passed_lines f g from now start cells p =
      p.left
      ∙ (ap (λ t. map g t ++ drop (row_count from) from) (take_all (row_count from) from (omega arith))
      ∙ (ap (λ t. map g from ++ t) (drop_all (row_count from) from (omega arith)) ∙ append-nil (map g from)))

pub no_item : {T : Type 0} (r : Option T) → ((x : T) → r ≡ Some x → ⊥) → option_to_list r ≡ []
no_item None h = refl
no_item (Some x) h = absurd (h x refl)

-- an item that is popped
module _ {T : Type 0} (old new : List T) (n : ℕ) (r : Option T) (size : n ≡ length old) (parts : old ≡ new ++ option_to_list r) (rest : new ≡ take (n - 1) old) where
  pub popped_rest : new ≡ before_last old
  popped_rest = rest ∙ ap (λ k. take (k - 1) old) size

  pub popped_item : last_of old ≡ option_to_list r
  popped_item =
      let k = length old - 1 in
      ap (drop k) (parts ∙ ap (λ xs. xs ++ option_to_list r) popped_rest) ∙ drop_at (before_last old) (option_to_list r) k (length-take-le k old (omega arith))

-- the lines as vectors
module _ {T A : Type 0} where
  pub rows-vecs : (lines : List (Vec T A)) → row_count (items_of_each lines) ≡ length lines
  rows-vecs lines = length-map lines (λ line. line.items)

  row-vecs : (lines : List (Vec T A)) (i : ℕ) → i < length lines → (v : Vec T A) → row (items_of_each lines) i ≡ (get_or lines i v).items
  row-vecs lines i lt v = get_or-map (λ line. line.items) lines i v [] lt

  module _ (f g : List T → List T) (i : ℕ) (from now : List (Vec T A)) (start cells : List T) (p : Passed f g i (items_of_each from) (items_of_each now) start cells) (same : length now ≡ length from) where
    -- the line that comes next
    pub passed_line : i < length now → (v : Vec T A) → v ≡ get_or now i v → row (items_of_each from) i ≡ v.items
    passed_line lt v e =
        sym (passed_next f g (items_of_each from) (items_of_each now) start cells i p (omega (arith, rows-vecs from))) ∙ (row-vecs now i lt v ∙ ap (λ v. v.items) (sym e))

    pub passed_step : i < length now → (v w : Vec T A) (more : List T) → v ≡ get_or now i v → w.items ≡ g v.items → more ≡ cells ++ f v.items → Passed f g (i + 1) (items_of_each from) (items_of_each (set now i w)) start more
    passed_step lt v w more e h k =
        let here = passed_line lt v e in
        passed_more f g (items_of_each from) (items_of_each now) start cells i (items_of_each (set now i w)) more p (omega (arith, rows-vecs from))
        (map-set (λ line. line.items) now i w ∙ ap (set (items_of_each now) i) (h ∙ ap g (sym here)))
        (k ∙ ap (λ xs. cells ++ f xs) (sym here))

    -- at the end
    module _ (end : length now ≤ i) (within : i ≤ length now) where
      done : Passed f g (row_count (items_of_each from)) (items_of_each from) (items_of_each now) start cells
      done = passed_all f g (items_of_each from) (items_of_each now) start cells i p (omega (arith, rows-vecs from))

      pub all_left : items_of_each now ≡ map g (items_of_each from)
      all_left = passed_lines f g (items_of_each from) (items_of_each now) start cells done

  -- the next line gives its last item
  pub lasts_step : (i : ℕ) (from now : List (Vec T A)) (start cells more : List T) (v w : Vec T A) (r : Option T) → Passed last_of before_last i (items_of_each from) (items_of_each now) start cells → length now ≡ length from → i < length now → v ≡ get_or now i v → v.len ≡ length v.items → v.items ≡ w.items ++ option_to_list r → w.items ≡ take (v.len - 1) v.items → more ≡ cells ++ option_to_list r → Passed last_of before_last (i + 1) (items_of_each from) (items_of_each (set now i w)) start more
  lasts_step i from now start cells more v w r p same lt e size parts rest k =
      passed_step last_of before_last i from now start cells p same lt v w more e (popped_rest v.items w.items v.len r size parts rest)
      (k ∙ ap (λ xs. cells ++ xs) (sym (popped_item v.items w.items v.len r size parts rest)))

  -- how many items the lines that are left have
  pub left_to_give : (from : List (Vec T A)) (i : ℕ) → i < length from → length (concat_rows (drop i (items_of_each from))) ≡ length (row (items_of_each from) i) + length (concat_rows (drop (i + 1) (items_of_each from)))
  left_to_give from i lt =
      ap (λ t. length (concat_rows t)) (drop_more (items_of_each from) i [] (omega (arith, rows-vecs from)))
      ∙ length-append (row (items_of_each from) i) (concat_rows (drop (i + 1) (items_of_each from)))

  -- lines that are all empty
  pub none_left : (lines : List (Vec T A)) (from : List (List T)) → items_of_each lines ≡ map (λ r. []) from → All (λ line. line.items ≡ []) lines
  none_left lines from e k d lt =
      sym (row-vecs lines k lt d)
      ∙ (ap (λ t. row t k) e ∙ get_or-map (λ r. []) from k [] [] (omega (arith, ap length e, rows-vecs lines, length-map {B = List T} from (λ r. []))))

-- a line from place c on
record Split {T : Type 0} (c : ℕ) (line : List T) : Type 0 where
  x : T
  is : slice_get line c ≡ Some x
  parts : drop c line ≡ x ∷ drop (suc c) line

module _ {T : Type 0} where
  split : (c : ℕ) (line : List T) → c < length line → Split c line
  split c [] lt = absurd (omega arith)
  split zero (x ∷ xs) lt = record { x = x; is = refl; parts = refl }
  split (suc c) (x ∷ xs) lt = let s = split c xs (omega arith) in record { x = s.x; is = s.is; parts = s.parts }

  reversed_parts : (c : ℕ) (line : List T) (s : Split c line) → reverse (drop c line) ≡ reverse (drop (suc c) line) ++ s.x ∷ []
  reversed_parts c line s = ap reverse s.parts ∙ reverse-append (s.x ∷ []) (drop (suc c) line)

  last_item : (xs : List T) (y : T) → last_of (xs ++ y ∷ []) ≡ y ∷ []
  last_item xs y = drop_at xs (y ∷ []) (length (xs ++ y ∷ []) - 1) (omega (arith, length-append xs (y ∷ [])))

  other_items : (xs : List T) (y : T) → before_last (xs ++ y ∷ []) ≡ xs
  other_items xs y = take_at xs (y ∷ []) (length (xs ++ y ∷ []) - 1) (omega (arith, length-append xs (y ∷ [])))

  -- the lines of which c items are gone, last first
  abbrev pub left_over : ℕ → List (List T) → List (List T)
  left_over c t = map (λ line. reverse (drop c line)) t

  abbrev Longer : ℕ → List (List T) → Type 0
  Longer c t = (r : ℕ) → r < row_count t → c < length (row t r)

  length-lasts : (c : ℕ) (t : List (List T)) → Longer c t → length (flat_map last_of (left_over c t)) ≡ row_count t
  length-lasts c [] h = refl
  length-lasts c (line ∷ t) h =
      let s = split c line (h 0 (omega arith)) in
      let first : last_of (reverse (drop c line)) ≡ s.x ∷ [] = ap last_of (reversed_parts c line s) ∙ last_item (reverse (drop (suc c) line)) s.x in
      ap (λ xs. length (xs ++ flat_map last_of (left_over c t))) first ∙ ap suc (length-lasts c t (λ r lt. h (suc r) (omega arith)))

  get-lasts : (c : ℕ) (t : List (List T)) (k : ℕ) → Longer c t → k < row_count t → slice_get (flat_map last_of (left_over c t)) k ≡ cell t k c
  get-lasts c [] k h lt = absurd (omega arith)
  get-lasts c (line ∷ t) zero h lt =
      let s = split c line (h 0 (omega arith)) in
      let first : last_of (reverse (drop c line)) ≡ s.x ∷ [] = ap last_of (reversed_parts c line s) ∙ last_item (reverse (drop (suc c) line)) s.x in
      ap (λ xs. slice_get (xs ++ flat_map last_of (left_over c t)) 0) first ∙ sym s.is
  get-lasts c (line ∷ t) (suc k) h lt =
      let s = split c line (h 0 (omega arith)) in
      let first : last_of (reverse (drop c line)) ≡ s.x ∷ [] = ap last_of (reversed_parts c line s) ∙ last_item (reverse (drop (suc c) line)) s.x in
      ap (λ xs. slice_get (xs ++ flat_map last_of (left_over c t)) (suc k)) first ∙ get-lasts c t k (λ r lt. h (suc r) (omega arith)) (omega arith)

  one_gone : (c : ℕ) (t : List (List T)) → Longer c t → map before_last (left_over c t) ≡ left_over (suc c) t
  one_gone c [] h = refl
  one_gone c (line ∷ t) h =
      let s = split c line (h 0 (omega arith)) in
      let first : before_last (reverse (drop c line)) ≡ reverse (drop (suc c) line) = ap before_last (reversed_parts c line s) ∙ other_items (reverse (drop (suc c) line)) s.x in
      ap (λ xs. xs ∷ map before_last (left_over c t)) first ∙ ap (λ u. reverse (drop (suc c) line) ∷ u) (one_gone c t (λ r lt. h (suc r) (omega arith)))

  all_gone : (c : ℕ) (t : List (List T)) → ((r : ℕ) → r < row_count t → length (row t r) ≤ c) → left_over c t ≡ map (λ r. []) t
  all_gone c [] h = refl
  all_gone c (line ∷ t) h =
      ap (λ xs. reverse xs ∷ left_over c t) (drop_all c line (h 0 (omega arith))) ∙ ap (λ u. [] ∷ u) (all_gone c t (λ r lt. h (suc r) (omega arith)))

  -- a table, of which the columns leave
  module _ (t : List (List T)) (h : IsTable t) where
    full : IsFull (col_count t) (row_count t) (λ c r. cell t r c)
    full = record { full = λ c r lc lr. (IsFull-cells t h).full r c lr lc }

    longer : (c : ℕ) → c < col_count t → Longer c t
    longer c lt r lr = omega (arith, h.even r lr)

    pub column_length : (c : ℕ) → c < col_count t → length (flat_map last_of (left_over c t)) ≡ row_count t
    column_length c lt = length-lasts c t (longer c lt)

    column_given : (c : ℕ) → c < col_count t → flat_map last_of (left_over c t) ≡ row (transposed t) c
    column_given c lt =
        let width : length (row (transposed t) c) ≡ row_count t = width-tabulate (col_count t) (row_count t) (λ c r. cell t r c) c full lt in
        same_cells (flat_map last_of (left_over c t)) (row (transposed t) c) (column_length c lt ∙ sym width)
        (λ k lk.
        let l : k < row_count t = omega (arith, column_length c lt) in
        get-lasts c t k (longer c lt) l ∙ sym (cell-tabulate (col_count t) (row_count t) (λ c r. cell t r c) c k full lt l))

    pub column_left : (c : ℕ) → c < col_count t → map before_last (left_over c t) ≡ left_over (c + 1) t
    column_left c lt = let next : suc c ≡ c + 1 = omega arith in one_gone c t (longer c lt) ∙ ap (λ k. left_over k t) next

    pub columns_given : (c : ℕ) (start cells more : List T) → c < col_count t → cells ≡ start ++ concat_rows (take c (transposed t)) → more ≡ cells ++ flat_map last_of (left_over c t) → more ≡ start ++ concat_rows (take (c + 1) (transposed t))
    columns_given c start cells more lt e k =
        let next : take (c + 1) (transposed t) ≡ take c (transposed t) ++ row (transposed t) c ∷ [] = take_more (transposed t) c [] (omega (arith, rows-transposed t)) in
        k
        ∙ (ap (λ xs. xs ++ flat_map last_of (left_over c t)) e
        ∙ (append_assoc start (concat_rows (take c (transposed t))) (flat_map last_of (left_over c t))
        ∙ ap (λ xs. start ++ xs)
        (ap (λ xs. concat_rows (take c (transposed t)) ++ xs) (column_given c lt)
        ∙ sym (ap concat_rows next
        ∙ (flat_map-append (λ r. r) (take c (transposed t)) (row (transposed t) c ∷ []) ∙ ap (λ xs. concat_rows (take c (transposed t)) ++ xs) (append-nil (row (transposed t) c)))))))

    pub columns_done : (c : ℕ) (start cells : List T) → col_count t ≤ c → cells ≡ start ++ concat_rows (take c (transposed t)) → cells ≡ start ++ storage ColumnMajor t
    columns_done c start cells le e = e ∙ ap (λ u. start ++ concat_rows u) (take_all c (transposed t) (omega (arith, rows-transposed t)))

    pub lines_done : (c : ℕ) → col_count t ≤ c → left_over c t ≡ map (λ r. []) t
    lines_done c le = all_gone c t (λ r lt. omega (arith, h.even r lt))
