-- Cells of a row of places that wait in a room while others move.
use Rattle.std.proofs.Common.{◌≡◌, refl, ap, sym, subst, ◌∙◌, inl, inr, Bool, false, List, [], ◌∷◌, ◌++◌, ℕ, suc, ◌+◌, ◌-◌, ◌≤◌, ◌<◌, arith, length, get_or, set, take, drop, length-append, length-drop, get_or-take, get_or-drop, length-take-le, Some, append_assoc, ⊎_elim, slice_get, slice_range}
use Rattle.grid_base.proofs.Common.{get_or-append, get_or-append_right, slice_get-get_or, slice_get_past, cases_lt, set_split, drop_more, SamePlaces, Filled, SameOutside, same_lists, BlocksExchanged}
use Rattle.core.specs.declared.slots.Slots.{Slots}

pub same_places : {X : Type 0} (a : Slots X) → SamePlaces a a
same_places a = record { start = refl; count = refl }

pub places_then : {X : Type 0} {a b c : Slots X} → SamePlaces a b → SamePlaces b c → SamePlaces a c
places_then p q = record { start = q.start ∙ p.start; count = q.count ∙ p.count }

pub filled_join : (fs : List Bool) (a b c : ℕ) → Filled fs a b → Filled fs b c → Filled fs a c
filled_join fs a b c h i k p q = ⊎_elim (λ lt. h k p lt) (λ ge. i k (omega arith) q) (cases_lt k b)

pub filled_part : (fs : List Bool) (a b c d : ℕ) → a ≤ c → d ≤ b → Filled fs a b → Filled fs c d
filled_part fs a b c d p q h k lo hi = h k (omega arith) (omega arith)

pub filled_below : (fs gs : List Bool) (low high a b : ℕ) → b ≤ low → SameOutside false fs gs low high → Filled fs a b → Filled gs a b
filled_below fs gs low high a b out same h k p q = same k (inl (omega arith)) ∙ h k p q

pub filled_above : (fs gs : List Bool) (low high a b : ℕ) → high ≤ a → SameOutside false fs gs low high → Filled fs a b → Filled gs a b
filled_above fs gs low high a b out same h k p q = same k (inr (omega arith)) ∙ h k p q

range_at : {X : Type 0} (xs : List X) (a b k : ℕ) (d : X) → a + k < b → get_or (slice_range xs a b) k d ≡ get_or xs (a + k) d
range_at xs a b k d h = get_or-take (b - a) (drop a xs) k d (omega arith) ∙ get_or-drop a xs k d

range_length : {X : Type 0} (xs : List X) (a b : ℕ) → b ≤ length xs → length (slice_range xs a b) ≡ b - a
range_length xs a b h = length-take-le (b - a) (drop a xs) (omega (arith, length-drop a xs))

-- n cells of xs, from a on, are written over those of ys from at on
module _ {X : Type 0} (xs ys zs : List X) (a at n : ℕ) (is : zs ≡ take at ys ++ slice_range xs a (a + n) ++ drop (at + n) ys) (p : a + n ≤ length xs) (q : at + n ≤ length ys) where
  front_long : length (take at ys ++ slice_range xs a (a + n)) ≡ at + n
  front_long = omega (arith, length-append (take at ys) (slice_range xs a (a + n)), length-take-le at ys (omega arith), range_length xs a (a + n) p)

  pub pasted_length : length zs ≡ length ys
  pasted_length = omega (arith, ap length is, length-append (take at ys ++ slice_range xs a (a + n)) (drop (at + n) ys), front_long, length-drop (at + n) ys)

  pub pasted_below : (k : ℕ) (d : X) → k < at → get_or zs k d ≡ get_or ys k d
  pasted_below k d h =
      ap (λ l. get_or l k d) is ∙ get_or-append _ _ d k (omega (arith, front_long)) ∙ get_or-append _ _ d k (omega (arith, length-take-le at ys (omega arith))) ∙ get_or-take at ys k d h

  pub pasted_at : (k : ℕ) (d : X) → at ≤ k → k < at + n → get_or zs k d ≡ get_or xs (a + (k - at)) d
  pasted_at k d h w =
      let long = length-take-le at ys (omega arith) in
      ap (λ l. get_or l k d) is ∙ get_or-append _ _ d k (omega (arith, front_long)) ∙ get_or-append_right _ _ k d (omega arith)
      ∙ ap (λ m. get_or (slice_range xs a (a + n)) (k - m) d) long ∙ range_at xs a (a + n) (k - at) d (omega arith)

  pub pasted_above : (k : ℕ) (d : X) → at + n ≤ k → get_or zs k d ≡ get_or ys k d
  pasted_above k d h =
      let back : at + n + (k - (at + n)) ≡ k = omega arith in
      ap (λ l. get_or l k d) is ∙ get_or-append_right _ _ k d (omega (arith, front_long)) ∙ ap (λ m. get_or (drop (at + n) ys) (k - m) d) front_long ∙ get_or-drop (at + n) ys _ d ∙ ap (λ m. get_or ys m d) back

-- the row as it is with the first n cells of the room at their place in it, from at on
abbrev pub with_waiting : {X : Type 0} → List X → List X → ℕ → ℕ → List X
with_waiting row room at n = take at row ++ slice_range room 0 (0 + n) ++ drop (at + n) row

same_get : {X : Type 0} (xs ys : List X) (i j : ℕ) → i < length xs → j < length ys → ((d : X) → get_or xs i d ≡ get_or ys j d) → slice_get xs i ≡ slice_get ys j
same_get [] ys i j p q e = absurd (omega arith)
same_get (x ∷ xs) ys i j p q e = slice_get-get_or (x ∷ xs) i x p ∙ (ap Some (e x) ∙ sym (slice_get-get_or ys j x q))

same_get_all : {X : Type 0} (xs ys : List X) (i : ℕ) → length xs ≡ length ys → (i < length xs → (d : X) → get_or xs i d ≡ get_or ys i d) → slice_get xs i ≡ slice_get ys i
same_get_all xs ys i l e = ⊎_elim (λ lt. same_get xs ys i i lt (omega arith) (e lt)) (λ ge. slice_get_past xs i (omega arith) ∙ sym (slice_get_past ys i (omega arith))) (cases_lt i (length xs))

pub none_waits : {X : Type 0} (row room : List X) (at : ℕ) → at ≤ length row → with_waiting row room at 0 ≡ row
none_waits row room at le =
    let v = with_waiting row room at 0 in
    let long = pasted_length room row v 0 at 0 refl (omega arith) (omega arith) in
    same_lists v row long (λ k d h. ⊎_elim (λ lt. pasted_below room row v 0 at 0 refl (omega arith) (omega arith) k d lt) (λ ge. pasted_above room row v 0 at 0 refl (omega arith) (omega arith) k d (omega arith)) (cases_lt k at))

-- a run moves after the groups that wait, and the last of them comes to its place
weave_step_at : {X : Type 0} (row room row1 row2 : List X) (start run few c end all n : ℕ) → end ≡ start + run → all ≡ few + c → n ≡ few + c → length row1 ≡ length row → few + c ≤ length room → start + run + (few + c) ≤ length row
    → ((k : ℕ) (d : X) → k < run → get_or row1 (start + (few + c) + k) d ≡ get_or row (start + k) d)
    → ((d : X) → SameOutside d row row1 (start + (few + c)) (start + (few + c) + run))
    → row2 ≡ take (start + few) row1 ++ slice_range room few (few + c) ++ drop (start + few + c) row1
    → BlocksExchanged start run n (with_waiting row room end all) (with_waiting row2 room start few)
weave_step_at row room row1 row2 start run few c end all n ee ea en l1 p q moved stays is =
    let v = with_waiting row room end all in
    let w = with_waiting row2 room start few in
    let in1 : start + few + c ≤ length row1 = omega arith in
    let l2 = pasted_length room row1 row2 few (start + few) c is p in1 in
    let pv : 0 + all ≤ length room = omega arith in
    let qv : end + all ≤ length row = omega arith in
    let pw : 0 + few ≤ length room = omega arith in
    let qw : start + few ≤ length row2 = omega arith in
    let lv = pasted_length room row v 0 end all refl pv qv in
    let lw = pasted_length room row2 w 0 start few refl pw qw in
    record {
      length_stays = omega arith;
      before = λ x lt. same_get w v x x (omega arith) (omega arith) (λ d.
          pasted_below room row2 w 0 start few refl pw qw x d lt
          ∙ (pasted_below room row1 row2 few (start + few) c is p in1 x d (omega arith)
          ∙ (stays d x (inl (omega arith)) ∙ sym (pasted_below room row v 0 end all refl pv qv x d (omega arith)))));
      second = λ x lt. same_get w v (start + x) (start + (run + x)) (omega arith) (omega arith) (λ d.
          ⊎_elim (λ low. pasted_at room row2 w 0 start few refl pw qw (start + x) d (omega arith) (omega arith) ∙ ap (λ j. get_or room j d) (omega arith))
          (λ high.
          pasted_above room row2 w 0 start few refl pw qw (start + x) d (omega arith)
          ∙ (pasted_at room row1 row2 few (start + few) c is p in1 (start + x) d (omega arith) (omega arith) ∙ ap (λ j. get_or room j d) (omega arith))) (cases_lt x few)
          ∙ sym (pasted_at room row v 0 end all refl pv qv (start + (run + x)) d (omega arith) (omega arith)));
      first = λ x lt. same_get w v (start + (n + x)) (start + x) (omega arith) (omega arith) (λ d.
          pasted_above room row2 w 0 start few refl pw qw (start + (n + x)) d (omega arith)
          ∙ (pasted_above room row1 row2 few (start + few) c is p in1 (start + (n + x)) d (omega arith)
          ∙ (ap (λ j. get_or row1 j d) (omega arith) ∙ (moved x d lt ∙ sym (pasted_below room row v 0 end all refl pv qv (start + x) d (omega arith))))));
      behind = λ x le. same_get_all w v x (omega arith) (λ lt d.
          pasted_above room row2 w 0 start few refl pw qw x d (omega arith)
          ∙ (pasted_above room row1 row2 few (start + few) c is p in1 x d (omega arith)
          ∙ (stays d x (inr (omega arith)) ∙ sym (pasted_above room row v 0 end all refl pv qv x d (omega arith)))));
    }

pub weave_step : {X : Type 0} (row room room2 row1 row2 : List X) (start run few c end all n : ℕ) → room2 ≡ room → end ≡ start + run → all ≡ few + c → n ≡ few + c → length row1 ≡ length row → few + c ≤ length room → start + run + (few + c) ≤ length row
    → ((k : ℕ) (d : X) → k < run → get_or row1 (start + (few + c) + k) d ≡ get_or row (start + k) d)
    → ((d : X) → SameOutside d row row1 (start + (few + c)) (start + (few + c) + run))
    → row2 ≡ take (start + few) row1 ++ slice_range room few (few + c) ++ drop (start + few + c) row1
    → BlocksExchanged start run n (with_waiting row room end all) (with_waiting row2 room2 start few)
weave_step row room room2 row1 row2 start run few c end all n same ee ea en l1 p q moved stays is =
    subst (λ r. BlocksExchanged start run n (with_waiting row room end all) (with_waiting row2 r start few)) (sym same) (weave_step_at row room row1 row2 start run few c end all n ee ea en l1 p q moved stays is)

-- a group joins those that wait, and the run after it moves to the front of them
unweave_step_at : {X : Type 0} (row room room1 row2 : List X) (start run few c n : ℕ) → n ≡ few + c → length row2 ≡ length row → few + c ≤ length room → start + run + (few + c) ≤ length row
    → room1 ≡ take few room ++ slice_range row (start + few) (start + few + c) ++ drop (few + c) room
    → ((k : ℕ) (d : X) → k < run → get_or row2 (start + k) d ≡ get_or row (start + (few + c) + k) d)
    → ((d : X) → SameOutside d row row2 start (start + run))
    → BlocksExchanged start n run (with_waiting row room start few) (with_waiting row2 room1 (start + run) n)
unweave_step_at row room room1 row2 start run few c n en l2 p q is moved stays =
    let v = with_waiting row room start few in
    let w = with_waiting row2 room1 (start + run) n in
    let in1 : start + few + c ≤ length row = omega arith in
    let l1 = pasted_length row room room1 (start + few) few c is in1 p in
    let pv : 0 + few ≤ length room = omega arith in
    let qv : start + few ≤ length row = omega arith in
    let pw : 0 + n ≤ length room1 = omega arith in
    let qw : start + run + n ≤ length row2 = omega arith in
    let lv = pasted_length room row v 0 start few refl pv qv in
    let lw = pasted_length room1 row2 w 0 (start + run) n refl pw qw in
    record {
      length_stays = omega arith;
      before = λ x lt. same_get w v x x (omega arith) (omega arith) (λ d.
          pasted_below room1 row2 w 0 (start + run) n refl pw qw x d (omega arith)
          ∙ (stays d x (inl lt) ∙ sym (pasted_below room row v 0 start few refl pv qv x d lt)));
      second = λ x lt. same_get w v (start + x) (start + (n + x)) (omega arith) (omega arith) (λ d.
          pasted_below room1 row2 w 0 (start + run) n refl pw qw (start + x) d (omega arith)
          ∙ (moved x d lt ∙ (ap (λ j. get_or row j d) (omega arith) ∙ sym (pasted_above room row v 0 start few refl pv qv (start + (n + x)) d (omega arith)))));
      first = λ x lt. same_get w v (start + (run + x)) (start + x) (omega arith) (omega arith) (λ d.
          pasted_at room1 row2 w 0 (start + run) n refl pw qw (start + (run + x)) d (omega arith) (omega arith)
          ∙ (ap (λ j. get_or room1 j d) (omega arith)
          ∙ ⊎_elim (λ low. pasted_below row room room1 (start + few) few c is in1 p x d low
          ∙ (ap (λ j. get_or room j d) (omega arith) ∙ sym (pasted_at room row v 0 start few refl pv qv (start + x) d (omega arith) (omega arith))))
          (λ high. pasted_at row room room1 (start + few) few c is in1 p x d (omega arith) (omega arith)
          ∙ (ap (λ j. get_or row j d) (omega arith) ∙ sym (pasted_above room row v 0 start few refl pv qv (start + x) d (omega arith)))) (cases_lt x few)));
      behind = λ x le. same_get_all w v x (omega arith) (λ lt d.
          pasted_above room1 row2 w 0 (start + run) n refl pw qw x d (omega arith)
          ∙ (stays d x (inr (omega arith)) ∙ sym (pasted_above room row v 0 start few refl pv qv x d (omega arith))));
    }

pub unweave_step : {X : Type 0} (row rowm room room1 row2 : List X) (start run few c n : ℕ) → rowm ≡ row → n ≡ few + c → length row2 ≡ length row → few + c ≤ length room → start + run + (few + c) ≤ length row
    → room1 ≡ take few room ++ slice_range row (start + few) (start + few + c) ++ drop (few + c) room
    → ((k : ℕ) (d : X) → k < run → get_or row2 (start + k) d ≡ get_or rowm (start + (few + c) + k) d)
    → ((d : X) → SameOutside d rowm row2 start (start + run))
    → BlocksExchanged start n run (with_waiting row room start few) (with_waiting row2 room1 (start + run) n)
unweave_step row rowm room room1 row2 start run few c n same en l2 p q is moved stays =
    unweave_step_at row room room1 row2 start run few c n en l2 p q is
    (λ k d lt. moved k d lt ∙ ap (λ l. get_or l (start + (few + c) + k) d) same)
    (λ d k out. stays d k out ∙ ap (λ l. get_or l k d) same)

-- one cell that is moved, in the words of a run
pub one_pasted : {X : Type 0} (xs ys zs : List X) (a at n : ℕ) (d : X) → n ≡ 1 → zs ≡ set ys at (get_or xs a d) → a < length xs → at < length ys → zs ≡ take at ys ++ slice_range xs a (a + n) ++ drop (at + n) ys
one_pasted xs ys zs a at n d single e la lat =
    let long : a + n - a ≡ 1 = omega arith in
    let one : slice_range xs a (a + n) ≡ get_or xs a d ∷ [] = ap (λ m. take m (drop a xs)) long ∙ ap (take 1) (drop_more xs a d la) in
    let next : suc at ≡ at + n = omega arith in
    e ∙ (set_split ys at (get_or xs a d) lat
    ∙ (ap (λ m. take at ys ++ get_or xs a d ∷ drop m ys) next
    ∙ (sym (append_assoc (take at ys) (get_or xs a d ∷ []) (drop (at + n) ys)) ∙ ap (λ r. take at ys ++ r ++ drop (at + n) ys) (sym one))))
