-- A line that is a slice of its own, and takes the cells before it block by block.
use Rattle.std.proofs.Common.{◌≡◌, ℕ, ◌+◌, ◌-◌, ◌*◌, ◌<◌, ◌≤◌, List, ◌++◌, length, take, drop, refl, sym, ◌∙◌, ap, subst, arith, length-append, length-take, take-append-drop, ⊎_elim, slice_get}
use Rattle.grid_base.proofs.Common.{cases_lt, slice_get_past, BlocksExchanged, BlockTaken, TakenOut}
use Rattle.grid_base.proofs.InTurnLemmas.{unweaving_none, unweaving_run, unweaving_end}
use Rattle.grid_base.proofs.StorageLemmas.{get_append_left, get_append_right}

-- the line has the c cells from e on, those after them are at their new places, and those before e have not moved
pub record Passing {T : Type 0} (c e : ℕ) (cells line now held : List T) : Type 0 where
  pub cells_stay : length now ≡ length cells
  pub line_stays : length held ≡ length line
  pub front : (k : ℕ) → k < e → slice_get now k ≡ slice_get cells k
  pub placed : (k : ℕ) → e ≤ k → k < length cells → slice_get now k ≡ slice_get (cells ++ line) (k + c)
  pub taken : (x : ℕ) → x < c → slice_get held x ≡ slice_get (cells ++ line) (e + x)

pub passing_none : {T : Type 0} (c e : ℕ) (cells line : List T) → e ≡ length cells → Passing c e cells line cells line
passing_none c e cells line end =
    record {
      cells_stay = refl;
      line_stays = refl;
      front = λ k lt. refl;
      placed = λ k lo hi. absurd (omega arith);
      taken = λ x lt. sym (get_append_right cells line (e + x) x (omega arith));
    }

pub passing_more : {T : Type 0} (c e d : ℕ) (cells line now held after given : List T) → e ≡ d + c → e ≤ length cells → Passing c e cells line now held → BlockTaken d 0 c now held after → BlockTaken 0 d c held now given → Passing c d cells line after given
passing_more c e d cells line now held after given same within h put took =
    record {
      cells_stay = put.length_stays ∙ h.cells_stay;
      line_stays = took.length_stays ∙ h.line_stays;
      front = λ k lt. put.others k (λ le. absurd (omega arith)) ∙ h.front k (omega arith);
      placed = λ k lo hi.
          ⊎_elim (λ low.
          ap (slice_get after) (omega arith)
          ∙ (put.taken (k - d) (omega arith)
          ∙ (ap (slice_get held) (omega arith) ∙ (h.taken (k - d) (omega arith) ∙ ap (slice_get (cells ++ line)) (omega arith)))))
          (λ high. put.others k (λ le. omega arith) ∙ h.placed k high hi) (cases_lt k e);
      taken = λ x lt.
          ap (slice_get given) (omega arith)
          ∙ (took.taken x lt ∙ (h.front (d + x) (omega arith) ∙ sym (get_append_left cells line (d + x) (omega arith))));
    }

-- fewer cells than the line has are left from s on
pub passing_end : {T : Type 0} (s c e f m : ℕ) (cells line now held after given last : List T) → e ≡ s + f → c ≡ m + f → c ≡ length line → e ≤ length cells → Passing c e cells line now held → BlockTaken s m f now held after → BlockTaken m s f held now given → BlocksExchanged 0 m f given last → BlocksExchanged s c (length cells - s) (cells ++ line) (after ++ last)
passing_end s c e f m cells line now held after given last here few all within h put took turned =
    let long : length after ≡ length cells = put.length_stays ∙ h.cells_stay in
    let wide : length last ≡ length line = turned.length_stays ∙ (took.length_stays ∙ h.line_stays) in
    let old_length : length (cells ++ line) ≡ length cells + length line = length-append cells line in
    let new_length : length (after ++ last) ≡ length after + length last = length-append after last in
    record {
      length_stays = omega arith;
      before = λ x lt.
          get_append_left after last x (omega arith)
          ∙ (put.others x (λ le. absurd (omega arith)) ∙ (h.front x (omega arith) ∙ sym (get_append_left cells line x (omega arith))));
      second = λ x lt.
          get_append_left after last (s + x) (omega arith)
          ∙ ⊎_elim (λ low.
          put.taken x low ∙ (h.taken (m + x) (omega arith) ∙ ap (slice_get (cells ++ line)) (omega arith)))
          (λ high.
          put.others (s + x) (λ le. omega arith)
          ∙ (h.placed (s + x) (omega arith) (omega arith) ∙ ap (slice_get (cells ++ line)) (omega arith))) (cases_lt x f);
      first = λ x lt.
          get_append_right after last (s + (length cells - s + x)) x (omega arith)
          ∙ ⊎_elim (λ low.
          ap (slice_get last) (omega arith)
          ∙ (turned.second x low
          ∙ (ap (slice_get given) (omega arith)
          ∙ (took.taken x low ∙ (h.front (s + x) (omega arith) ∙ sym (get_append_left cells line (s + x) (omega arith)))))))
          (λ high.
          ap (slice_get last) (omega arith)
          ∙ (turned.first (x - f) (omega arith)
          ∙ (ap (slice_get given) (omega arith)
          ∙ (took.others (x - f) (λ le. absurd (omega arith))
          ∙ (h.taken (x - f) (omega arith) ∙ ap (slice_get (cells ++ line)) (omega arith)))))) (cases_lt x f);
      behind = λ x le. slice_get_past (after ++ last) x (omega arith) ∙ sym (slice_get_past (cells ++ line) x (omega arith));
    }

-- the group of a single line has changed places with the cells after it, and is a list of its own
pub taken_from_line : {T : Type 0} (p q i k : ℕ) (xs short taken new last : List T) → p ≡ 1 → i ≤ q → length xs ≡ p * (q + k) → short ≡ take q xs → taken ≡ drop q xs → length new ≡ length short → BlocksExchanged i (length taken) (length short - i) (short ++ taken) (new ++ last) → TakenOut p q i k new last xs
taken_from_line p q i k xs short taken new last single le len front back same moved =
    let whole : short ++ taken ≡ xs = ap (λ v. v ++ taken) front ∙ (ap (λ v. take q xs ++ v) back ∙ take-append-drop q xs) in
    let all : length xs ≡ q + k = len ∙ (ap (λ v. v * (q + k)) single ∙ omega arith) in
    let wide : length short ≡ q = ap length front ∙ omega (arith, length-take q xs) in
    let rest : length taken ≡ k = omega (arith, ap length whole, length-append short taken) in
    let from_all : BlocksExchanged i (length taken) (length short - i) xs (new ++ last) = rw whole at moved in
    let of_group : BlocksExchanged i k (length short - i) xs (new ++ last) = rw rest at from_all in
    let exchanged : BlocksExchanged i k (q - i) xs (new ++ last) = rw wide at of_group in
    let once : BlocksExchanged i ((0 + 1) * k) (q - i) xs (new ++ last) = subst (λ n. BlocksExchanged i n (q - i) xs (new ++ last)) (omega arith) exchanged in
    let run = unweaving_run p q i k 0 i (q - i) (p * q) xs xs (new ++ last) le (omega arith) (omega (arith, ap (λ v. v * q) single)) (omega (arith, ap (λ v. v * q) single)) (unweaving_none p q i k xs le) once (omega (arith, ap (λ v. v * q) single)) in
    record {
      lengths = same ∙ omega (arith, ap (λ v. v * q) single);
      woven = unweaving_end p q i k 1 (p * q) xs (new ++ last) le (sym single) (λ _. refl) run;
    }
