-- Marks of cells.
use Rattle.std.proofs.Common.{◌≡◌, ℕ, zero, suc, ◌+◌, ◌-◌, ◌*◌, ◌%◌, ◌<◌, ◌&&◌, inl, inr, Bool, true, false, cond, nat_lt, List, [], ◌∷◌, Option, Some, None, length, refl, sym, subst, ◌∙◌, ap, arith, get_or, set, take, slice_get, filter_map, option_map, MatchOption, get_or-set_other, take_all, le-ltb, Bor}
use Rattle.grid_near.proofs.Common.{cons_option, AllZip, from_bool, slice_get_read, sum_by-cons, get_or-set_at, cases_lt, add-mod_right, along, table_of, HoldsSize, positions_of, lines_of, holds, get_along, all_passed, length-places, get-zip, zip_even, place_within, cell_at, before, around_of, strided_cell, by_strides, strides_of, view-rows, view-cols, view-table, view-cell, beside, around, side, positions, MayAnswer, MayCount, CountsNear, SumsNear, MarkAt, MarksCells, MarksLine, AreBeside, WithEnds, IsBeyond, spot, near, table, placed_cells, count_around, sum_around}
use Rattle.grid_base.specs.declared.order.Order.{Order}
use Rattle.grid_base.specs.declared.order.Order.TheVariants.{RowMajor, ColumnMajor}
use Rattle.grid_near.specs.declared.steps.Connectivity.{Connectivity}
use Rattle.grid_near.specs.declared.steps.Connectivity.TheVariants.{Four, Eight}
use Rattle.grid_near.specs.declared.board.Board.{Board}
use Rattle.grid_near.specs.declared.board.Edges.{Edges}
use Rattle.grid_near.specs.declared.board.Edges.TheVariants.{Open, Joined}
use Rattle.grid_near.proofs.AroundLemmas.{cell_here, start_shown, at_strides, below_mod}
use Rattle.grid_near.proofs.WrappedLemmas.{none_done, around_within}

module _ {F T B : Type 0} (blank : B) (returns : F → Bor T → B → Type 0) (f : F) (cells : List T) (start : ℕ) where
  -- one more mark
  pub marked_more : (k : ℕ) (marks : List B) (x : T) (p : Bor T) (b : B) → MarksCells blank returns f cells start k marks → k + 1 < length marks → slice_get cells (start + k) ≡ Some x → p.now ≡ x → returns f p b → MarksCells blank returns f cells start (k + 1) (set marks (k + 1) b)
  marked_more k marks x p b h lt is shows said = record {
    at = λ j y lj e.
        elim (cases_lt j k) [
          | inl old ↦ subst (MayAnswer returns f y) (sym (get_or-set_other marks (k + 1) (j + 1) b blank (λ s. omega arith))) (h.at j y old e)
          | inr new ↦
              let same : j ≡ k = omega arith in
              let there : slice_get cells (start + j) ≡ Some x = subst (λ i. slice_get cells (start + i) ≡ Some x) (sym same) is in
              let x_is : x ≡ y = cc in
              subst (MayAnswer returns f y) (sym (get_or-set_at marks (k + 1) (j + 1) b blank (omega arith) lt)) (p, shows ∙ x_is, said)
        ];
  }

-- cells that a table hasn't
module _ {T : Type 0} (cells : List T) (size strides : ℕ × ℕ) where
  abbrev g : ℕ → ℕ → Option T
  g = strided_cell cells size strides

  missing_row : (r c : Option ℕ) → IsBeyond size.0 r → cell_at g (r, c) ≡ None
  missing_row None c h = refl
  missing_row (Some r) None h = refl
  missing_row (Some r) (Some c) h =
      ap (λ b. option_map {U = (ℕ × ℕ) × T} (λ x. ((r, c), x)) (cond (b && nat_lt c size.1) (slice_get cells (r * strides.0 + c * strides.1)) None)) (le-ltb r size.0 h)

  none_past : (b : Bool) (o : Option T) → cond (b && false) o None ≡ None
  none_past true o = refl
  none_past false o = refl

  missing_col : (r c : Option ℕ) → IsBeyond size.1 c → cell_at g (r, c) ≡ None
  missing_col None c h = refl
  missing_col (Some r) None h = refl
  missing_col (Some r) (Some c) h =
      ap (λ b. option_map {U = (ℕ × ℕ) × T} (λ x. ((r, c), x)) (cond (nat_lt r size.0 && b) (slice_get cells (r * strides.0 + c * strides.1)) None)) (le-ltb c size.1 h)
      ∙ ap (option_map {U = (ℕ × ℕ) × T} (λ x. ((r, c), x))) (none_past (nat_lt r size.0) (slice_get cells (r * strides.0 + c * strides.1)))

spot_place_missing : {T : Type 0} (cells : List T) (o : Order) (size : ℕ × ℕ) (l c : Option ℕ) → IsBeyond (along o size.0 size.1).1 c → cell_at (strided_cell cells size (strides_of o size)) (spot o l c) ≡ None
spot_place_missing cells RowMajor size l c h = missing_col cells size (size.1, 1) l c h
spot_place_missing cells ColumnMajor size l c h = missing_row cells size (1, size.0) c l h

spot_found : {T : Type 0} (cells : List T) (o : Order) (size : ℕ × ℕ) (l c : ℕ) (x : T) → l < (along o size.0 size.1).0 → c < (along o size.0 size.1).1 → slice_get cells (l * (along o size.0 size.1).1 + c) ≡ Some x → cell_at (strided_cell cells size (strides_of o size)) (spot o (Some l) (Some c)) ≡ Some (along o l c, x)
spot_found cells RowMajor size l c x ll lc is =
    cell_here cells size (by_strides (size.1, 1)) l c x ll lc (ap (slice_get cells) (omega arith) ∙ is)
spot_found cells ColumnMajor size l c x ll lc is =
    cell_here cells size (by_strides (1, size.0)) c l x lc ll (ap (slice_get cells) (omega arith) ∙ is)

-- a place in a line is within the cells
line_within : (o : Order) (m n len l c : ℕ) → HoldsSize m n len → l < (along o m n).0 → c < (along o m n).1 → l * (along o m n).1 + c < len
line_within RowMajor m n len l c h ll lc = omega (arith, place_within RowMajor m n l c ll lc, h.cells)
line_within ColumnMajor m n len l c h ll lc = omega (arith, place_within ColumnMajor m n c l lc ll, h.cells)

record ItemAt {T : Type 0} (xs : List T) (k : ℕ) : Type 0 where
  pub x : T
  pub is : slice_get xs k ≡ Some x

item_at : {T : Type 0} (xs : List T) (k : ℕ) → k < length xs → ItemAt xs k
item_at [] k lt = absurd (omega arith)
item_at (x ∷ xs) zero lt = record { x = x; is = refl }
item_at (x ∷ xs) (suc k) lt = let i = item_at xs k (omega arith) in record { x = i.x; is = i.is }

-- the mark at a number that is another
same_mark : {B : Type 0} (blank : B) (marks : List B) (j k : ℕ) → j ≡ k → get_or marks j blank ≡ get_or marks k blank
same_mark blank marks j k e = ap (λ n. get_or marks n blank) e

module _ {F T B : Type 0} (blank : B) (returns : F → Bor T → B → Type 0) (f : F) where
  module _ (g : ℕ → ℕ → Option T) where
    mark_none : (p : Option ℕ × Option ℕ) (b : B) → cell_at g p ≡ None → b ≡ blank → MarkAt blank returns f g p b
    mark_none p b e is = subst (λ z. MatchOption z (b ≡ blank) (λ n. MayAnswer returns f n.1 b)) (sym e) is

    mark_some : (p : Option ℕ × Option ℕ) (q : ℕ × ℕ) (x : T) (b : B) → cell_at g p ≡ Some (q, x) → MayAnswer returns f x b → MarkAt blank returns f g p b
    mark_some p q x b e m = subst (λ z. MatchOption z (b ≡ blank) (λ n. MayAnswer returns f n.1 b)) (sym e) m

  module _ (cells : List T) (o : Order) (size : ℕ × ℕ) (h : HoldsSize size.0 size.1 (length cells)) where
    abbrev lines : ℕ
    lines = (along o size.0 size.1).0

    abbrev w : ℕ
    w = (along o size.0 size.1).1

    abbrev there : ℕ → ℕ → Option T
    there = strided_cell cells size (strides_of o size)

    module _ (l : ℕ) (old new : List B) (ll : l < lines) (m : MarksCells blank returns f cells (l * w) w old) where
      inside : (c : ℕ) (b : B) → c < w → b ≡ get_or old (c + 1) blank → MarkAt blank returns f there (spot o (Some l) (Some c)) b
      inside c b lc eb =
          let i = item_at cells (l * w + c) (line_within o size.0 size.1 (length cells) l c h ll lc) in
          mark_some there _ (along o l c) i.x b (spot_found cells o size l c i.x ll lc i.is) (subst (MayAnswer returns f i.x) (sym eb) (m.at c i.x lc i.is))

      outside : (c : Option ℕ) (b : B) → IsBeyond w c → b ≡ blank → MarkAt blank returns f there (spot o (Some l) c) b
      outside c b past eb = mark_none there _ b (spot_place_missing cells o size (Some l) c past) eb

      open_mark : WithEnds blank Open w old new → (k i j : ℕ) → k < w → i < 3 → j ≡ k + i → MarkAt blank returns f there (spot o (Some l) (beside k i)) (get_or new j blank)
      open_mark ends zero zero j lk li ej = outside None _ tt (same_mark blank new j 0 (omega arith) ∙ ends.first)
      open_mark ends (suc k) zero j lk li ej = inside k _ (omega arith) (same_mark blank new j (k + 1) (omega arith) ∙ ends.keeps k (omega arith))
      open_mark ends k (suc zero) j lk li ej = inside k _ lk (same_mark blank new j (k + 1) (omega arith) ∙ ends.keeps k lk)
      open_mark ends k (suc (suc zero)) j lk li ej = elim (cases_lt (k + 1) w) [
        | inl lt ↦ inside (k + 1) _ lt (same_mark blank new j (k + 1 + 1) (omega arith) ∙ ends.keeps (k + 1) lt)
        | inr ge ↦ outside (Some (k + 1)) _ ge (same_mark blank new j (w + 1) (omega arith) ∙ ends.last)
      ]
      open_mark ends k (suc (suc (suc i))) j lk li ej = absurd (omega arith)

      joined_mark : WithEnds blank Joined w old new → (k i j : ℕ) → k < w → i < 3 → j ≡ k + i → MarkAt blank returns f there (spot o (Some l) (Some (around w k i))) (get_or new j blank)
      joined_mark ends zero zero j lk li ej =
          let c : around w 0 0 ≡ w - 1 = below_mod w (0 + w - 1) (omega arith) ∙ omega arith in
          inside (around w 0 0) _ (around_within w 0 0 lk) (same_mark blank new j 0 (omega arith) ∙ (ends.first ∙ same_mark blank old w (around w 0 0 + 1) (omega (arith, c))))
      joined_mark ends (suc k) zero j lk li ej =
          let c : around w (suc k) 0 ≡ k = ap (λ x. x % w) (omega arith) ∙ (add-mod_right k w ∙ below_mod w k (omega arith)) in
          inside (around w (suc k) 0) _ (around_within w (suc k) 0 lk) (same_mark blank new j (k + 1) (omega arith) ∙ (ends.keeps k (omega arith) ∙ same_mark blank old (k + 1) (around w (suc k) 0 + 1) (omega (arith, c))))
      joined_mark ends k (suc zero) j lk li ej = inside k _ lk (same_mark blank new j (k + 1) (omega arith) ∙ ends.keeps k lk)
      joined_mark ends k (suc (suc zero)) j lk li ej = elim (cases_lt (k + 1) w) [
        | inl lt ↦
            let c : around w k 2 ≡ k + 1 = below_mod w (k + 1) lt in
            inside (around w k 2) _ (around_within w k 2 lk) (same_mark blank new j (k + 1 + 1) (omega arith) ∙ (ends.keeps (k + 1) lt ∙ same_mark blank old (k + 1 + 1) (around w k 2 + 1) (omega (arith, c))))
        | inr ge ↦
            let c : around w k 2 ≡ 0 = ap (λ x. x % w) (omega arith) ∙ add-mod_right 0 w ∙ below_mod w 0 (omega arith) in
            inside (around w k 2) _ (around_within w k 2 lk) (same_mark blank new j (w + 1) (omega arith) ∙ (ends.last ∙ same_mark blank old 1 (around w k 2 + 1) (omega (arith, c))))
      ]
      joined_mark ends k (suc (suc (suc i))) j lk li ej = absurd (omega arith)

      -- a line that the table has
      pub line_marked : (e : Edges) (line : Option ℕ) → line ≡ Some l → WithEnds blank e w old new → MarksLine blank returns f there o e w line new
      line_marked Open line is ends = subst (λ z. MarksLine blank returns f there o Open w z new) (sym is) (record { at = open_mark ends })
      line_marked Joined line is ends = subst (λ z. MarksLine blank returns f there o Joined w z new) (sym is) (record { at = joined_mark ends })

around_shown : {T : Type 0} (cells : List T) (o : Order) (size : ℕ × ℕ) → HoldsSize size.0 size.1 (length cells) → (e : Edges) (connectivity : Connectivity) (at : ℕ × ℕ) → at.0 < size.0 → at.1 < size.1 → filter_map (cell_at (strided_cell cells size (strides_of o size))) (positions e size connectivity at) ≡ around_of connectivity e (table_of o size.0 size.1 cells) at.0 at.1
around_shown cells o size h e connectivity at lr lc =
    start_shown (table_of o size.0 size.1 cells) (view-table o size.0 size.1 cells h) cells size (by_strides (strides_of o size)) (sym (view-rows o size.0 size.1 cells h)) (sym (view-cols o size.0 size.1 cells h))
    (λ r c lr lc. ap (slice_get cells) (at_strides o size.0 size.1 r c) ∙ sym (view-cell o size.0 size.1 cells h r c lr lc)) e connectivity at 0 (sym (none_done size connectivity at e lr lc))

-- the marks around a place of a line, in the order of the positions of the cells
abbrev marks_around : {B : Type 0} → B → Order → Connectivity → List B → List B → List B → ℕ → List B
marks_around blank RowMajor Four up mid down k = get_or up (k + 1) blank ∷ get_or mid k blank ∷ get_or mid (k + 2) blank ∷ get_or down (k + 1) blank ∷ []
marks_around blank RowMajor Eight up mid down k = get_or up k blank ∷ get_or up (k + 1) blank ∷ get_or up (k + 2) blank ∷ get_or mid k blank ∷ get_or mid (k + 2) blank ∷ get_or down k blank ∷ get_or down (k + 1) blank ∷ get_or down (k + 2) blank ∷ []
marks_around blank ColumnMajor Four up mid down k = get_or mid k blank ∷ get_or up (k + 1) blank ∷ get_or down (k + 1) blank ∷ get_or mid (k + 2) blank ∷ []
marks_around blank ColumnMajor Eight up mid down k = get_or up k blank ∷ get_or mid k blank ∷ get_or down k blank ∷ get_or up (k + 1) blank ∷ get_or down (k + 1) blank ∷ get_or up (k + 2) blank ∷ get_or mid (k + 2) blank ∷ get_or down (k + 2) blank ∷ []

-- what marks tell of cells, they tell so of those around a cell
module _ {F T B : Type 0} (blank : B) (returns : F → Bor T → B → Type 0) (f : F) (Tells : List ((ℕ × ℕ) × T) → ℕ → Type 0) (sum : List B → ℕ) (told : (g : ℕ → ℕ → Option T) (ps : List (Option ℕ × Option ℕ)) (bs : List B) → AllZip (MarkAt blank returns f g) ps bs → Tells (filter_map (cell_at g) ps) (sum bs)) (cells : List T) where
  around_told : (o : Order) (size : ℕ × ℕ) → HoldsSize size.0 size.1 (length cells) → (e : Edges) (connectivity : Connectivity) (l k : ℕ) (up mid down : List B) → l < (along o size.0 size.1).0 → k < (along o size.0 size.1).1 → MarksLine blank returns f (strided_cell cells size (strides_of o size)) o e (along o size.0 size.1).1 (side e (along o size.0 size.1).0 l 0) up → MarksLine blank returns f (strided_cell cells size (strides_of o size)) o e (along o size.0 size.1).1 (side e (along o size.0 size.1).0 l 1) mid → MarksLine blank returns f (strided_cell cells size (strides_of o size)) o e (along o size.0 size.1).1 (side e (along o size.0 size.1).0 l 2) down → Tells (around_of connectivity e (table_of o size.0 size.1 cells) (along o l k).0 (along o l k).1) (sum (marks_around blank o connectivity up mid down k))
  around_told RowMajor size h e Four l k up mid down ll lk hu hm hd =
      subst (λ near. Tells near (sum (marks_around blank RowMajor Four up mid down k))) (around_shown cells RowMajor size h e Four (l, k) ll lk)
      (told (strided_cell cells size (size.1, 1)) (positions e size Four (l, k)) _ (hu.at k 1 (k + 1) lk (omega arith) (omega arith), (hm.at k 0 k lk (omega arith) (omega arith), (hm.at k 2 (k + 2) lk (omega arith) (omega arith), (hd.at k 1 (k + 1) lk (omega arith) (omega arith), tt)))))
  around_told RowMajor size h e Eight l k up mid down ll lk hu hm hd =
      subst (λ near. Tells near (sum (marks_around blank RowMajor Eight up mid down k))) (around_shown cells RowMajor size h e Eight (l, k) ll lk)
      (told (strided_cell cells size (size.1, 1)) (positions e size Eight (l, k)) _ (hu.at k 0 k lk (omega arith) (omega arith), (hu.at k 1 (k + 1) lk (omega arith) (omega arith), (hu.at k 2 (k + 2) lk (omega arith) (omega arith), (hm.at k 0 k lk (omega arith) (omega arith), (hm.at k 2 (k + 2) lk (omega arith) (omega arith), (hd.at k 0 k lk (omega arith) (omega arith), (hd.at k 1 (k + 1) lk (omega arith) (omega arith), (hd.at k 2 (k + 2) lk (omega arith) (omega arith), tt)))))))))
  around_told ColumnMajor size h e Four l k up mid down ll lk hu hm hd =
      subst (λ near. Tells near (sum (marks_around blank ColumnMajor Four up mid down k))) (around_shown cells ColumnMajor size h e Four (k, l) lk ll)
      (told (strided_cell cells size (1, size.0)) (positions e size Four (k, l)) _ (hm.at k 0 k lk (omega arith) (omega arith), (hu.at k 1 (k + 1) lk (omega arith) (omega arith), (hd.at k 1 (k + 1) lk (omega arith) (omega arith), (hm.at k 2 (k + 2) lk (omega arith) (omega arith), tt)))))
  around_told ColumnMajor size h e Eight l k up mid down ll lk hu hm hd =
      subst (λ near. Tells near (sum (marks_around blank ColumnMajor Eight up mid down k))) (around_shown cells ColumnMajor size h e Eight (k, l) lk ll)
      (told (strided_cell cells size (1, size.0)) (positions e size Eight (k, l)) _ (hu.at k 0 k lk (omega arith) (omega arith), (hm.at k 0 k lk (omega arith) (omega arith), (hd.at k 0 k lk (omega arith) (omega arith), (hu.at k 1 (k + 1) lk (omega arith) (omega arith), (hd.at k 1 (k + 1) lk (omega arith) (omega arith), (hu.at k 2 (k + 2) lk (omega arith) (omega arith), (hm.at k 2 (k + 2) lk (omega arith) (omega arith), (hd.at k 2 (k + 2) lk (omega arith) (omega arith), tt)))))))))

-- how many are true
abbrev trues : List Bool → ℕ
trues [] = 0
trues (b ∷ bs) = from_bool b + trues bs

same_count : (o : Order) (connectivity : Connectivity) (up mid down : List Bool) (k : ℕ) → trues (marks_around false o connectivity up mid down k) ≡ count_around connectivity up mid down k
same_count RowMajor Four up mid down k = omega arith
same_count RowMajor Eight up mid down k = omega arith
same_count ColumnMajor Four up mid down k = omega arith
same_count ColumnMajor Eight up mid down k = omega arith

module _ {F T : Type 0} (returns : F → Bor T → Bool → Type 0) (f : F) where
  counted_step : (o : Option ((ℕ × ℕ) × T)) (b : Bool) (near : List ((ℕ × ℕ) × T)) (n : ℕ) → MatchOption o (b ≡ false) (λ x. MayAnswer returns f x.1 b) → CountsNear returns f near n → CountsNear returns f (cons_option o near) (from_bool b + n)
  counted_step None true near n m h = absurd (cc m)
  counted_step None false near n m h = subst (CountsNear returns f near) (omega arith) h
  counted_step (Some x) true near n m h = record {
    tested = λ p says.
        let one : ◌≡◌ {A = ℕ} (cond (p x) 1 0) 1 = ap (λ b. cond {A = ℕ} b 1 0) (ap (λ y. p (x.0, y)) (sym m.1) ∙ says x.0 m.0 true m.2) in
        omega (arith, one, h.tested p says, sum_by-cons (λ i. cond {A = ℕ} (p i) 1 0) x near);
    answers = inr (n, omega arith, m, h.answers);
  }
  counted_step (Some x) false near n m h = record {
    tested = λ p says.
        let none : ◌≡◌ {A = ℕ} (cond (p x) 1 0) 0 = ap (λ b. cond {A = ℕ} b 1 0) (ap (λ y. p (x.0, y)) (sym m.1) ∙ says x.0 m.0 false m.2) in
        omega (arith, none, h.tested p says, sum_by-cons (λ i. cond {A = ℕ} (p i) 1 0) x near);
    answers = inl (m, subst (MayCount returns f near) (omega arith) h.answers);
  }

  module _ (g : ℕ → ℕ → Option T) where
    counted : (ps : List (Option ℕ × Option ℕ)) (bs : List Bool) → AllZip (MarkAt false returns f g) ps bs → CountsNear returns f (filter_map (cell_at g) ps) (trues bs)
    counted [] [] a = record { tested = λ p says. refl; answers = refl }
    counted [] (b ∷ bs) a = absurd a
    counted (p ∷ ps) [] a = absurd a
    counted (p ∷ ps) (b ∷ bs) a = counted_step (cell_at g p) b (filter_map (cell_at g) ps) (trues bs) a.0 (counted ps bs a.1)

  -- the marks around a place say how many of the cells around it pass
  around_counted : (cells : List T) (o : Order) (size : ℕ × ℕ) → HoldsSize size.0 size.1 (length cells) → (e : Edges) (connectivity : Connectivity) (l k : ℕ) (up mid down : List Bool) → l < (along o size.0 size.1).0 → k < (along o size.0 size.1).1 → MarksLine false returns f (strided_cell cells size (strides_of o size)) o e (along o size.0 size.1).1 (side e (along o size.0 size.1).0 l 0) up → MarksLine false returns f (strided_cell cells size (strides_of o size)) o e (along o size.0 size.1).1 (side e (along o size.0 size.1).0 l 1) mid → MarksLine false returns f (strided_cell cells size (strides_of o size)) o e (along o size.0 size.1).1 (side e (along o size.0 size.1).0 l 2) down → CountsNear returns f (around_of connectivity e (table_of o size.0 size.1 cells) (along o l k).0 (along o l k).1) (count_around connectivity up mid down k)
  around_counted cells o size h e connectivity l k up mid down ll lk hu hm hd =
      subst (CountsNear returns f _) (same_count o connectivity up mid down k) (around_told false returns f (CountsNear returns f) trues counted cells o size h e connectivity l k up mid down ll lk hu hm hd)

-- the sum of numbers
abbrev total : List ℕ → ℕ
total [] = 0
total (b ∷ bs) = b + total bs

same_sum : (o : Order) (connectivity : Connectivity) (up mid down : List ℕ) (k : ℕ) → total (marks_around 0 o connectivity up mid down k) ≡ sum_around connectivity up mid down k
same_sum RowMajor Four up mid down k = omega arith
same_sum RowMajor Eight up mid down k = omega arith
same_sum ColumnMajor Four up mid down k = omega arith
same_sum ColumnMajor Eight up mid down k = omega arith

module _ {F T : Type 0} (returns : F → Bor T → ℕ → Type 0) (f : F) where
  summed_step : (o : Option ((ℕ × ℕ) × T)) (b : ℕ) (near : List ((ℕ × ℕ) × T)) (n : ℕ) → MatchOption o (b ≡ 0) (λ x. MayAnswer returns f x.1 b) → SumsNear returns f near n → SumsNear returns f (cons_option o near) (b + n)
  summed_step None b near n m h = subst (SumsNear returns f near) (omega (arith, m)) h
  summed_step (Some x) b near n m h = record {
    tested = λ p says.
        let one : p x ≡ b = ap (λ y. p (x.0, y)) (sym m.1) ∙ says x.0 m.0 b m.2 in
        omega (arith, one, h.tested p says, sum_by-cons p x near);
    answers = (b, n, refl, m, h.answers);
  }

  module _ (g : ℕ → ℕ → Option T) where
    summed : (ps : List (Option ℕ × Option ℕ)) (bs : List ℕ) → AllZip (MarkAt 0 returns f g) ps bs → SumsNear returns f (filter_map (cell_at g) ps) (total bs)
    summed [] [] a = record { tested = λ p says. refl; answers = refl }
    summed [] (b ∷ bs) a = absurd a
    summed (p ∷ ps) [] a = absurd a
    summed (p ∷ ps) (b ∷ bs) a = summed_step (cell_at g p) b (filter_map (cell_at g) ps) (total bs) a.0 (summed ps bs a.1)

  -- the marks around a place have the sum of the cells around it
  around_summed : (cells : List T) (o : Order) (size : ℕ × ℕ) → HoldsSize size.0 size.1 (length cells) → (e : Edges) (connectivity : Connectivity) (l k : ℕ) (up mid down : List ℕ) → l < (along o size.0 size.1).0 → k < (along o size.0 size.1).1 → MarksLine 0 returns f (strided_cell cells size (strides_of o size)) o e (along o size.0 size.1).1 (side e (along o size.0 size.1).0 l 0) up → MarksLine 0 returns f (strided_cell cells size (strides_of o size)) o e (along o size.0 size.1).1 (side e (along o size.0 size.1).0 l 1) mid → MarksLine 0 returns f (strided_cell cells size (strides_of o size)) o e (along o size.0 size.1).1 (side e (along o size.0 size.1).0 l 2) down → SumsNear returns f (around_of connectivity e (table_of o size.0 size.1 cells) (along o l k).0 (along o l k).1) (sum_around connectivity up mid down k)
  around_summed cells o size h e connectivity l k up mid down ll lk hu hm hd =
      subst (SumsNear returns f _) (same_sum o connectivity up mid down k) (around_told 0 returns f (SumsNear returns f) total summed cells o size h e connectivity l k up mid down ll lk hu hm hd)

before-next : (k : ℕ) → before (k + 1) ≡ Some k
before-next k =
    let P : ℕ → Type 0 = λ n. before n ≡ Some k in
    let same : suc k ≡ k + 1 = omega arith in
    subst P same refl

-- the line after the first of three is the middle one
pub side_first : (e : Edges) (n k : ℕ) → k + 1 < n → side e n k 1 ≡ side e n (k + 1) 0
side_first Open n k lt = sym (before-next k)
side_first Joined n k lt =
    let same : k + 1 + n - 1 ≡ k + n = omega arith in
    ap Some (sym (ap (λ x. x % n) same ∙ (add-mod_right k n ∙ below_mod n k (omega arith))))

pub side_second : (e : Edges) (n k : ℕ) → k + 1 < n → side e n k 2 ≡ side e n (k + 1) 1
side_second Open n k lt = refl
side_second Joined n k lt = ap Some (below_mod n (k + 1) lt)

-- the cells of a board
module _ {T F : Type 0} (b : Board T F) where
  abbrev o : Order
  o = b.layout.order

  abbrev board_lines : ℕ
  board_lines = (lines_of b.layout).0

  abbrev board_width : ℕ
  board_width = (lines_of b.layout).1

  pub holds_size : HoldsSize b.layout.rows b.layout.cols (length b.cells.now)
  holds_size = holds b.layout (length b.cells.now) b.filled

  placed_even : length (positions_of b.layout) ≡ length b.cells.now
  placed_even = length-places o b.layout.rows b.layout.cols b.layout.size ∙ sym b.filled

  -- the cell in place k of line l
  pub within_board : (l k : ℕ) → l < board_lines → k < board_width → l * board_width + k < length b.cells.now
  within_board l k ll lk = line_within o b.layout.rows b.layout.cols (length b.cells.now) l k holds_size ll lk

  pub cell_placed : (l k i : ℕ) (x : T) → l < board_lines → k < board_width → i ≡ l * board_width + k → x ≡ get_or b.cells.now (l * board_width + k) x → slice_get (placed_cells b) i ≡ Some (along o l k, x)
  cell_placed l k i x ll lk e is =
      let here : slice_get (positions_of b.layout) i ≡ Some (along o l k) = get_along o b.layout.rows b.layout.cols l k (l * board_width) i (lines_of b.layout) (along o l k) b.layout.size ll refl lk refl e refl in
      let shown : slice_get b.cells.now i ≡ Some x = ap (slice_get b.cells.now) e ∙ slice_get_read b.cells.now (length b.cells.now) _ x refl (within_board l k ll lk) is in
      get-zip (positions_of b.layout) b.cells.now i (along o l k) x here shown

  -- past the last line all cells are passed
  pub board_passed : (l i : ℕ) → l ≡ board_lines → i ≡ l * board_width → i ≡ length b.cells.now
  board_passed l i el e = sym (all_passed o b.layout.rows b.layout.cols l i (lines_of b.layout) b.layout.size refl el e) ∙ placed_even

  pub all_placed : (i : ℕ) → i ≡ length b.cells.now → take i (placed_cells b) ≡ placed_cells b
  all_placed i e = take_all i (placed_cells b) (omega (arith, zip_even (positions_of b.layout) b.cells.now placed_even, placed_even, e))

-- what the marks around a place of a board say of the cells around it
pub board_counted : {T F : Type 0} (returns : F → Bor T → Bool → Type 0) (b : Board T F) (l k : ℕ) (up mid down : List Bool) → l < (lines_of b.layout).0 → k < (lines_of b.layout).1 → AreBeside false returns b l up mid down → CountsNear returns b.mark.now (near b (table b) (along b.layout.order l k).0 (along b.layout.order l k).1) (count_around b.connectivity up mid down k)
board_counted returns b l k up mid down ll lk m = around_counted returns b.mark.now b.cells.now b.layout.order (b.layout.rows, b.layout.cols) (holds_size b) b.edges b.connectivity l k up mid down ll lk m.before m.here m.after

pub board_summed : {T F : Type 0} (returns : F → Bor T → ℕ → Type 0) (b : Board T F) (l k : ℕ) (up mid down : List ℕ) → l < (lines_of b.layout).0 → k < (lines_of b.layout).1 → AreBeside 0 returns b l up mid down → SumsNear returns b.mark.now (near b (table b) (along b.layout.order l k).0 (along b.layout.order l k).1) (sum_around b.connectivity up mid down k)
board_summed returns b l k up mid down ll lk m = around_summed returns b.mark.now b.cells.now b.layout.order (b.layout.rows, b.layout.cols) (holds_size b) b.edges b.connectivity l k up mid down ll lk m.before m.here m.after
