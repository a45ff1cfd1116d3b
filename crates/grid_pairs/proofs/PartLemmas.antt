-- Parts of a table, row by row, and the iterator over them.
use Rattle.std.proofs.Common.{ext_get_or, drop-drop, length-drop, mod-lt, ◌≡◌, ℕ, ◌+◌, ◌-◌, ◌*◌, ◌/◌, ◌%◌, ◌^◌, ◌<◌, ◌≤◌, min, List, [], ◌∷◌, ◌++◌, length, get_or, take, drop, Bool, false, Option, None, Some, refl, sym, ◌∙◌, ap, arith, ⊎_elim, mul-le-mul_right, slice_get, slice_index_or, subst, MatchOption}
use Rattle.std.proofs.Math.ListN.{drop_of_length-le}
use Rattle.std.proofs.lemmas.List.FromFn.{get_or-map-range_with_len, length-map-range_with_len}
use Rattle.std.proofs.lemmas.Grind.{div_ceil_times}
use Rattle.std.proofs.lemmas.Nat.{div_below, div-mul-add, mod-mul-add, div-add-mod'}
use Rattle.std.specs.Int.{div_ceil}
use Rattle.std.specs.Iterator.{YieldsFirstBy, YieldsLastBy}
use Rattle.std.specs.Iterator.Runs.{EachRunFrom, AllItems}
use Rattle.grid_base.proofs.Common.{cases_lt, mul-le, from_front, from_back, row_count, col_count, cell, remaining, at_some, at-is, slice_get_within, IsTable}
use Rattle.grid_base.proofs.TableLemmas.{rows-tabulate, cols-tabulate, IsFull-cells}
use Rattle.grid_base.proofs.SpreadLemmas.{wide_lines}
use Rattle.grid_base.proofs.StorageLemmas.{get-drop}
use Rattle.grid_base.proofs.RemainingLemmas.{remaining_all, length-left, remaining_next, remaining_next_back, remaining_past}
use Rattle.grid_view.specs.Value.{ViewValue}
use Rattle.grid_view.specs.View.{sub_table}
use Rattle.grid_pairs.specs.Parts.{in_turn, part_of, parts_at, parts_from, tiles, windows, ArePartsLeft, PartsInOrder, PartsInReverse, GivesParts, GivesSize, GivesUpTo}

module _ {X : Type 0} (p q : ℕ) (f : ℕ → ℕ → X) where
  pub length-in_turn : length (in_turn p q f) ≡ p * q
  length-in_turn = length-map-range_with_len _ 0 (p * q)

  pub get_in_turn : (k : ℕ) (d : X) → k < p * q → get_or (in_turn p q f) k d ≡ f (k / q) (k % q)
  get_in_turn k d lt = get_or-map-range_with_len (λ k. f (k / q) (k % q)) 0 (p * q) k k d lt (omega arith)

-- the same said of each row and column
pub in_turn_same : {X : Type 0} (p q : ℕ) (f g : ℕ → ℕ → X) (d : X) → ((i j : ℕ) → i < p → j < q → f i j ≡ g i j) → in_turn p q f ≡ in_turn p q g
in_turn_same p q f g d same =
    ext_get_or d (in_turn p q f) (in_turn p q g) (length-in_turn p q f ∙ sym (length-in_turn p q g))
    (λ k l.
    let lt : k < p * q = omega (arith, length-in_turn p q f) in
    let some : 0 < q = wide_lines p q (omega (arith, lt)) in
    get_in_turn p q f k d lt ∙ (same (k / q) (k % q) (div_below k q p some lt) (mod-lt k some) ∙ sym (get_in_turn p q g k d lt)))

module _ {T : Type 0} (t : List (List T)) (step size count : ℕ × ℕ) where
  pub length-parts : length (parts_at t step size count) ≡ count.0 * count.1
  length-parts = length-in_turn count.0 count.1 (λ i j. part_of t (i * step.0, j * step.1) size)

  -- all of them
  pub all_parts : (n : ℕ) → parts_from t step size count 0 0 n ≡ remaining 0 n (parts_at t step size count)
  all_parts n =
      let e : 0 * count.1 + 0 ≡ 0 = omega arith in
      let f : 0 * count.1 + 0 + n ≡ n = omega arith in
      ap (λ k. remaining k (0 * count.1 + 0 + n) (parts_at t step size count)) e ∙ ap (λ k. remaining 0 k (parts_at t step size count)) f

  pub get_parts : (k : ℕ) → k < count.0 * count.1 → get_or (parts_at t step size count) k [] ≡ part_of t (k / count.1 * step.0, k % count.1 * step.1) size
  get_parts k lt = get_in_turn count.0 count.1 (λ i j. part_of t (i * step.0, j * step.1) size) k [] lt

-- what is left where some part is
module _ {T : Type 0} (t : List (List T)) (step size : ℕ × ℕ) (whole : Bool) (count : ℕ × ℕ) (r c left : ℕ) (h : ArePartsLeft t step size whole count r c left) (some : 0 < left) where
  abbrev part : ℕ → ℕ → List (List T)
  part i j = part_of t (i * step.0, j * step.1) size

  abbrev last : ℕ
  last = r * count.1 + c + (left - 1)

  -- the next is one of them
  number_in : r * count.1 + c < count.0 * count.1
  number_in = omega (arith, h.within, some)

  pub next_parts : (u v : ℕ) → u * count.1 + v ≡ r * count.1 + c + 1 → (x : List (List T)) → x ≡ part r c → parts_from t step size count r c left ≡ x ∷ parts_from t step size count u v (left - 1)
  next_parts u v e x is =
      let all = parts_at t step size count in
      let there : x ≡ get_or all (r * count.1 + c) [] =
      is ∙ sym (get_parts t step size count (r * count.1 + c) number_in ∙ (ap (λ i. part i ((r * count.1 + c) % count.1)) (div-mul-add r count.1 c (h.col_in some)) ∙ ap (λ j. part r j) (mod-mul-add r count.1 c (h.col_in some)))) in
      remaining_next (r * count.1 + c) (r * count.1 + c + left) (count.0 * count.1) (r * count.1 + c) (u * count.1 + v) (u * count.1 + v + (left - 1)) all x [] (record { ordered = omega arith; within = h.within }) (sym (length-parts t step size count)) (omega (arith, some)) refl e (omega (arith, e, some)) there

  -- the last is one of them
  last_in : last < count.0 * count.1
  last_in = omega (arith, h.within, some)

  pub last_parts : (x : List (List T)) → x ≡ part (last / count.1) (last % count.1) → parts_from t step size count r c left ≡ parts_from t step size count r c (left - 1) ++ x ∷ []
  last_parts x is =
      let all = parts_at t step size count in
      remaining_next_back (r * count.1 + c) (r * count.1 + c + left) (count.0 * count.1) last (r * count.1 + c) (r * count.1 + c + (left - 1)) all x [] (record { ordered = omega arith; within = h.within }) (sym (length-parts t step size count)) (omega (arith, some)) (omega (arith, some)) refl (omega (arith, some)) (is ∙ sym (get_parts t step size count last last_in))

  -- past n of them
  module _ (n : ℕ) (lt : n < left) where
    abbrev past : ℕ
    past = r * count.1 + c + n

    past_is : past / count.1 * count.1 + past % count.1 ≡ past
    past_is = div-add-mod' past count.1

    pub parts_past : parts_from t step size count (past / count.1) (past % count.1) (left - n) ≡ drop n (parts_from t step size count r c left)
    parts_past =
        let all = parts_at t step size count in
        let end : past + (left - n) ≡ r * count.1 + c + left = omega (arith, lt) in
        ap (λ k. remaining k (k + (left - n)) all) past_is
        ∙ (ap (λ k. remaining past k all) end
        ∙ remaining_past (r * count.1 + c) (r * count.1 + c + left) n all (omega (arith, lt)))

-- none is left
module _ {T : Type 0} (t : List (List T)) (step size : ℕ × ℕ) (whole : Bool) (count : ℕ × ℕ) (r c left : ℕ) (h : ArePartsLeft t step size whole count r c left) where
  pub length-parts_from : length (parts_from t step size count r c left) ≡ left
  length-parts_from =
      let all = parts_at t step size count in
      let long = length-parts t step size count in
      omega (arith, length-left (r * count.1 + c) (r * count.1 + c + left) all (record { ordered = omega arith; within = omega (arith, h.within, long) }))

  pub none_past : (n : ℕ) → left ≤ n → parts_from t step size count r c 0 ≡ drop n (parts_from t step size count r c left)
  none_past n le =
      let none : r * count.1 + c + 0 - (r * count.1 + c) ≡ 0 = omega arith in
      ap (λ k. take k (drop (r * count.1 + c) (parts_at t step size count))) none
      ∙ sym (drop_of_length-le (parts_from t step size count r c left) {i = n} (omega (arith, length-parts_from, le)))

-- a tile begins within a line, so that there are no more of them than cells
pub tile_begins : (n h i : ℕ) → 0 < h → i < div_ceil n h → i * h < n
tile_begins n h i some lt =
    let w : (i + 1) * h ≤ div_ceil n h * h = mul-le-mul_right h (omega arith) in
    omega (arith, w, (div_ceil_times n h some).1)

pub tile_count : (n h : ℕ) → 0 < h → div_ceil n h ≤ n
tile_count n h some = ⊎_elim {C = div_ceil n h ≤ n}
    (λ lt.
    let i = div_ceil n h - 1 in
    let one : i * 1 ≤ i * h = mul-le i 1 i h (omega arith) (omega arith) in
    omega (arith, tile_begins n h i some (omega arith), one))
    (λ none. omega arith) (cases_lt 0 (div_ceil n h))

module _ {T : Type 0} (t : List (List T)) (h w : ℕ) (tall : 0 < h) (wide : 0 < w) (below : row_count t * col_count t < 2 ^ 64) where
  abbrev tile_counts : ℕ × ℕ
  tile_counts = (div_ceil (row_count t) h, div_ceil (col_count t) w)

  abbrev window_counts : ℕ × ℕ
  window_counts = (row_count t + 1 - h, col_count t + 1 - w)

  pub tiles_fit : div_ceil (row_count t) h * div_ceil (col_count t) w < 2 ^ 64
  tiles_fit = omega (arith, below, mul-le (div_ceil (row_count t) h) (div_ceil (col_count t) w) (row_count t) (col_count t) (tile_count (row_count t) h tall) (tile_count (col_count t) w wide))

  pub windows_fit : (row_count t + 1 - h) * (col_count t + 1 - w) < 2 ^ 64
  windows_fit = omega (arith, below, mul-le (row_count t + 1 - h) (col_count t + 1 - w) (row_count t) (col_count t) (omega arith) (omega arith))

  pub tiles_left : ArePartsLeft t (h, w) (h, w) false tile_counts 0 0 (tile_counts.0 * tile_counts.1)
  tiles_left = record {
    tall = tall;
    wide = wide;
    down = λ i lt. tile_begins (row_count t) h i tall lt;
    across = λ j lt. tile_begins (col_count t) w j wide lt;
    fits = λ is. absurd (cc);
    below = tiles_fit;
    within = omega arith;
    col_in = λ some. wide_lines tile_counts.0 tile_counts.1 some;
  }

  -- parts that begin at each position, and end within the table
  window_part : (i j : ℕ) → i < row_count t + 1 - h → j < col_count t + 1 - w → part_of t (i * 1, j * 1) (h, w) ≡ sub_table t (i, j) (h, w)
  window_part i j li lj =
      let m = row_count t in
      let n = col_count t in
      let ei : i * 1 ≡ i = omega arith in
      let ej : j * 1 ≡ j = omega arith in
      let eh : min h (m - i) ≡ h = omega arith in
      let ew : min w (n - j) ≡ w = omega arith in
      ap (λ a. sub_table t (a, j * 1) (min h (m - a), min w (n - j * 1))) ei
      ∙ (ap (λ b. sub_table t (i, b) (min h (m - i), min w (n - b))) ej
      ∙ (ap (λ x. sub_table t (i, j) (x, min w (n - j))) eh ∙ ap (λ y. sub_table t (i, j) (h, y)) ew))

  pub windows_at : parts_at t (1, 1) (h, w) window_counts ≡ windows t h w
  windows_at = in_turn_same (row_count t + 1 - h) (col_count t + 1 - w) _ _ [] window_part

module _ {T : Type 0} where
  pub parts_in_order : PartsInOrder T
  parts_in_order = from_front (YieldsFirstBy (λ (part : ViewValue T). part.rows) (λ rest. rest)) (λ part. part.rows) (λ rest. rest) (λ s t h. ap length h.0) (λ s x t h. h)

  pub parts_in_reverse : PartsInReverse T
  parts_in_reverse = from_back (YieldsLastBy (λ (part : ViewValue T). part.rows) (λ rest. rest)) (λ part. part.rows) (λ rest. rest) (λ s t h. ap length h.0) (λ s x t h. h)

  -- an iterator that has all of n parts left
  pub gives_parts : (n : ℕ) (all parts : List (List (List T))) → length all ≡ n → n < 2 ^ 64 → all ≡ parts → GivesParts parts (remaining 0 n all)
  gives_parts n all parts len fits same =
      let whole : remaining 0 n all ≡ all = remaining_all n all (sym len) in
      (whole ∙ same, parts_in_order, parts_in_reverse, omega (arith, ap length whole, len))

module _ {T : Type 0} (t s : List (List T)) (h w down across : ℕ) (tall : 0 < h) (wide : 0 < w) (below : row_count t * col_count t < 2 ^ 64) (same : s ≡ t) where
  pub gives_tiles : down ≡ div_ceil (row_count t) h → across ≡ div_ceil (col_count t) w → GivesParts (tiles t h w) (parts_from s (h, w) (h, w) (down, across) 0 0 (down * across))
  gives_tiles ed ea = subst (λ l. GivesParts (tiles t h w) l) (sym (all_parts s (h, w) (h, w) (down, across) (down * across))) (rw (ed, ea, same) (gives_parts (div_ceil (row_count t) h * div_ceil (col_count t) w) (tiles t h w) (tiles t h w) (length-parts t (h, w) (h, w) (div_ceil (row_count t) h, div_ceil (col_count t) w)) (tiles_fit t h w tall wide below) refl))

  pub gives_windows : down ≡ row_count t + 1 - h → across ≡ col_count t + 1 - w → GivesParts (windows t h w) (parts_from s (1, 1) (h, w) (down, across) 0 0 (down * across))
  gives_windows ed ea = subst (λ l. GivesParts (windows t h w) l) (sym (all_parts s (1, 1) (h, w) (down, across) (down * across))) (rw (ed, ea, same) (gives_parts ((row_count t + 1 - h) * (col_count t + 1 - w)) (parts_at t (1, 1) (h, w) (row_count t + 1 - h, col_count t + 1 - w)) (windows t h w) (length-parts t (1, 1) (h, w) (row_count t + 1 - h, col_count t + 1 - w)) (windows_fit t h w tall wide below) (windows_at t h w tall wide below)))

-- what a step gives past n items
pub nth_part_found : {T X : Type 0} (view : T → X) (n : ℕ) (xs mid rest : List X) (r : Option T) → mid ≡ drop n xs → YieldsFirstBy view (λ (l : List X). l) mid r rest → MatchOption r (length xs ≤ n) (λ x. slice_get xs n ≡ Some (view x)) × (rest ≡ drop (n + 1) xs)
nth_part_found view n xs mid rest None e h =
    let l : [] ≡ drop n xs = sym h.0 ∙ e in
    (omega (arith, ap length l, length-drop n xs), h.1 ∙ (ap (drop 1) l ∙ drop-drop 1 n xs))
nth_part_found view n xs mid rest (Some x) e h =
    let l : view x ∷ rest ≡ drop n xs = sym h ∙ e in
    (sym (ap (λ l. slice_get l 0) l ∙ get-drop n xs n 0 (omega arith)), ap (drop 1) l ∙ drop-drop 1 n xs)

-- the size of a part within a table
pub size_of_part : {T : Type 0} (t : List (List T)) (i j h w : ℕ) → IsTable t → 0 < h → 0 < w → i + h ≤ row_count t → j + w ≤ col_count t → (row_count (sub_table t (i, j) (h, w)) ≡ h) × (col_count (sub_table t (i, j) (h, w)) ≡ w)
size_of_part t i j h w table tall wide down across = (
  rows-tabulate h w (λ r c. cell t (i + r) (j + c)),
  cols-tabulate h w (λ r c. cell t (i + r) (j + c)) (record { has_cols = λ a. wide; has_rows = λ a. tall }) (record { full = λ r c lr lc. (IsFull-cells t table).full (i + r) (j + c) (omega (arith, down, lr)) (omega (arith, across, lc)) }),
)

-- what holds of the part of each row and column holds of each part that an iterator gives
module _ {T : Type 0} (P : List (List T) → Type 0) (p q : ℕ) (f : ℕ → ℕ → List (List T)) (each : (i j : ℕ) → i < p → j < q → P (f i j)) where
  part_at : (k : ℕ) (x : List (List T)) → k < length (in_turn p q f) → x ≡ slice_index_or (in_turn p q f) k x → P x
  part_at k x l is =
      let lt : k < p * q = omega (arith, length-in_turn p q f, l) in
      let some : 0 < q = wide_lines p q (omega (arith, lt)) in
      subst P (sym (is ∙ get_in_turn p q f k x lt)) (each (k / q) (k % q) (div_below k q p some lt) (mod-lt k some))

  pub each_part : (it : List (List (List T))) → it ≡ in_turn p q f → EachRunFrom (YieldsFirstBy (λ (part : ViewValue T). part.rows) (λ rest. rest)) it (λ r. AllItems r (λ part. P part.rows))
  each_part it is r g from k =
      let maps = parts_in_order r g in
      let cut : r.from ≡ in_turn p q f = from ∙ is in
      at_some (r.at k) _ (λ x there.
      let inside : k < r.len = omega (arith, r.long, slice_get_within r.items k x (sym (at-is r k) ∙ there)) in
      let at : x.rows ≡ slice_index_or r.from k x.rows = subst (λ z. MatchOption z (Unit {0}) (λ y. y.rows ≡ slice_index_or r.from k y.rows)) there (maps.8 k) in
      part_at k x.rows (omega (arith, maps.0, ap length cut)) (at ∙ ap (λ l. slice_index_or l k x.rows) cut))

module _ {T : Type 0} (t s : List (List T)) (h w down across : ℕ) (tall : 0 < h) (wide : 0 < w) (below : row_count t * col_count t < 2 ^ 64) (same : s ≡ t) (table : IsTable t) where
  pub windows_size : down ≡ row_count t + 1 - h → across ≡ col_count t + 1 - w → GivesSize h w (parts_from s (1, 1) (h, w) (down, across) 0 0 (down * across))
  windows_size ed ea =
      each_part (λ u. (row_count u ≡ h) × (col_count u ≡ w)) (row_count t + 1 - h) (col_count t + 1 - w) (λ i j. sub_table t (i, j) (h, w))
      (λ i j li lj. size_of_part t i j h w table tall wide (omega (arith, li)) (omega (arith, lj)))
      _ (gives_windows t s h w down across tall wide below same ed ea).0

  pub tiles_size : down ≡ div_ceil (row_count t) h → across ≡ div_ceil (col_count t) w → GivesUpTo h w (parts_from s (h, w) (h, w) (down, across) 0 0 (down * across))
  tiles_size ed ea =
      each_part (λ u. (0 < row_count u) × (row_count u ≤ h) × (0 < col_count u) × (col_count u ≤ w)) (div_ceil (row_count t) h) (div_ceil (col_count t) w) (λ i j. part_of t (i * h, j * w) (h, w))
      (λ i j li lj.
      let bi = tile_begins (row_count t) h i tall li in
      let bj = tile_begins (col_count t) w j wide lj in
      let z = size_of_part t (i * h) (j * w) (min h (row_count t - i * h)) (min w (col_count t - j * w)) table (omega (arith, bi, tall)) (omega (arith, bj, wide)) (omega (arith, bi)) (omega (arith, bj)) in
      (omega (arith, z.0, bi, tall), omega (arith, z.0), omega (arith, z.1, bj, wide), omega (arith, z.1)))
      _ (gives_tiles t s h w down across tall wide below same ed ea).0
