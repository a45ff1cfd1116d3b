-- Items that come to the end of a list one by one, or leave it there.
use Rattle.std.proofs.Common.{◌≡◌, ℕ, zero, suc, ◌+◌, ◌-◌, ◌<◌, ◌≤◌, List, [], ◌∷◌, ◌++◌, length, take, drop, reverse, refl, sym, ◌∙◌, ap, subst, arith, append_assoc, append-nil, All, length-append, Some, ⊎_elim, slice_get, set, length-set}
use Rattle.grid_base.proofs.Common.{length-reverse, reverse-append, All-append, All-nil, take-append_seam, drop-append_seam, cases_eq, AppendsEach, BlockTaken}
use Rattle.grid_base.proofs.StorageLemmas.{get_append_right}
use Rattle.grid_base.proofs.WriteLemmas.{get-set_same, get-set_other}

pub fresh_none : {T : Type 0} (P : T → Type 0) (old now : List T) → now ≡ old → AppendsEach P 0 old now
fresh_none P old now e = record { fresh = []; number = refl; each = All-nil P; appended = e ∙ sym (append-nil old) }

All-one : {T : Type 0} (P : T → Type 0) (x : T) → P x → All P (x ∷ [])
All-one P x h zero d lt = h
All-one P x h (suc k) d lt = absurd (omega arith)

pub fresh_more : {T : Type 0} (P : T → Type 0) (n : ℕ) (x : T) (old now new : List T) → AppendsEach P n old now → P x → new ≡ now ++ x ∷ [] → AppendsEach P (n + 1) old new
fresh_more P n x old now new h p e =
    record {
      fresh = h.fresh ++ x ∷ [];
      number = length-append h.fresh (x ∷ []) ∙ omega (arith, h.number);
      each = All-append P h.fresh (x ∷ []) h.each (All-one P x p);
      appended = e ∙ (ap (λ ys. ys ++ x ∷ []) h.appended ∙ append_assoc old h.fresh (x ∷ []));
    }

-- some items have left the end of a list for the end of another, last first
pub record Leaving {T : Type 0} (n : ℕ) (old now from into : List T) : Type 0 where
  pub gone : List T
  pub number : length gone ≡ n
  pub left : old ≡ now ++ reverse gone
  pub come : into ≡ from ++ gone

pub leaving_more : {T : Type 0} (n m : ℕ) (x : T) (old now next from into new : List T) → Leaving n old now from into → m ≡ n + 1 → now ≡ next ++ x ∷ [] → new ≡ into ++ x ∷ [] → Leaving m old next from new
leaving_more n m x old now next from into new h e l r =
    record {
      gone = h.gone ++ x ∷ [];
      number = length-append h.gone (x ∷ []) ∙ omega (arith, h.number);
      left = h.left ∙ (ap (λ ys. ys ++ reverse h.gone) l ∙ (append_assoc next (x ∷ []) (reverse h.gone) ∙ ap (λ ys. next ++ ys) (sym (reverse-append h.gone (x ∷ [])))));
      come = r ∙ (ap (λ ys. ys ++ x ∷ []) h.come ∙ append_assoc from h.gone (x ∷ []));
    }

pub leaving_length : {T : Type 0} (n : ℕ) (old now from into : List T) → Leaving n old now from into → length now + n ≡ length old
leaving_length n old now from into h =
    sym (ap length h.left ∙ (length-append now (reverse h.gone) ∙ ap (λ m. length now + m) (length-reverse h.gone ∙ h.number)))

pub leaving_cells : {T : Type 0} (n at : ℕ) (old now from into : List T) → Leaving n old now from into → length now ≡ at → now ≡ take at old
leaving_cells n at old now from into h e =
    sym (ap (take at) h.left ∙ (ap (λ m. take m (now ++ reverse h.gone)) (sym e) ∙ take-append_seam now (reverse h.gone)))

-- what has come is put in order, in the form of the goal
pub leaving_tail : {T : Type 0} (n at start len : ℕ) (old now from into new : List T) → Leaving n old now from into → length now ≡ at → length from ≡ start → new ≡ take start into ++ reverse (drop start into) → len ≡ length new → take len (new ++ drop (length new) into) ≡ from ++ drop at old
leaving_tail n at start len old now from into new h e f transposed l =
    let behind : drop at old ≡ reverse h.gone =
    ap (drop at) h.left ∙ (ap (λ m. drop m (now ++ reverse h.gone)) (sym e) ∙ drop-append_seam now (reverse h.gone)) in
    let front : take start into ≡ from = ap (take start) h.come ∙ (ap (λ m. take m (from ++ h.gone)) (sym f) ∙ take-append_seam from h.gone) in
    let back : drop start into ≡ h.gone = ap (drop start) h.come ∙ (ap (λ m. drop m (from ++ h.gone)) (sym f) ∙ drop-append_seam from h.gone) in
    ap (λ m. take m (new ++ drop (length new) into)) l
    ∙ (take-append_seam new (drop (length new) into)
    ∙ (transposed ∙ (ap (λ ys. ys ++ reverse (drop start into)) front ∙ ap (λ ys. from ++ ys) (ap reverse back ∙ sym behind))))

-- k of the last n items of a list have left its end, for their places among those from place a on
pub record Moving {T : Type 0} (a n k : ℕ) (old now from left : List T) : Type 0 where
  pub gone : List T
  pub number : length gone ≡ k
  pub split : from ≡ left ++ gone
  pub block : BlockTaken (a + (n - k)) (length left) k old from now

pub moving_none : {T : Type 0} (a n : ℕ) (old from : List T) → Moving a n 0 old old from from
moving_none a n old from =
    record {
      gone = [];
      number = refl;
      split = sym (append-nil from);
      block = record { length_stays = refl; taken = λ x lt. absurd (omega arith); others = λ j out. refl };
    }

pub moving_more : {T : Type 0} (a n k : ℕ) (y : T) (old now from left next : List T) → k < n → a + n ≤ length old → Moving a n k old now from left → left ≡ next ++ y ∷ [] → Moving a n (k + 1) old (set now (a + (n - 1 - k)) y) from next
moving_more a n k y old now from left next lt fits h l =
    let put : a + (n - 1 - k) < length now = omega (arith, h.block.length_stays) in
    let split : from ≡ next ++ (y ∷ h.gone) = h.split ∙ (ap (λ ys. ys ++ h.gone) l ∙ append_assoc next (y ∷ []) h.gone) in
    let last : slice_get from (length next) ≡ Some y = ap (λ ys. slice_get ys (length next)) split ∙ get_append_right next (y ∷ h.gone) (length next) 0 (omega arith) in
    let len : length left ≡ length next + 1 = ap length l ∙ length-append next (y ∷ []) in
    record {
      gone = y ∷ h.gone;
      number = omega (arith, h.number);
      split = split;
      block = record {
        length_stays = length-set now _ y ∙ h.block.length_stays;
        taken = λ x lx. ⊎_elim
            (λ first. ap (slice_get (set now (a + (n - 1 - k)) y)) (omega (arith, first)) ∙ (get-set_same now _ y put ∙ (sym last ∙ ap (slice_get from) (omega (arith, first)))))
            (λ later.
            get-set_other now (a + (n - 1 - k)) _ y (λ e. omega (arith, e, later))
            ∙ (ap (slice_get now) (omega (arith, later)) ∙ (h.block.taken (x - 1) (omega (arith, later)) ∙ ap (slice_get from) (omega (arith, later, len)))))
            (cases_eq x 0);
        others = λ j out. get-set_other now (a + (n - 1 - k)) j y (λ e. omega (arith, e, out (omega (arith, e)))) ∙ h.block.others j (λ le. let past = out (omega arith) in omega (arith, past));
      };
    }

-- all n have
module _ {T : Type 0} (a n k len : ℕ) (old now from left : List T) (all : k ≡ n) (size : len ≡ length from) (h : Moving a n k old now from left) where
  moved_place : length left ≡ len - n
  moved_place = omega (arith, all, size, h.number, ap length h.split, length-append left h.gone)

  pub moved_all : BlockTaken a (len - n) n old from now
  moved_all =
      let to : a + (n - k) ≡ a = omega (arith, all) in
      subst (λ m. BlockTaken a (len - n) m old from now) all
      (subst (λ p. BlockTaken a p k old from now) moved_place (subst (λ i. BlockTaken i (length left) k old from now) to h.block))

  pub moved_rest : left ≡ take (len - n) from
  moved_rest = sym (ap (take (len - n)) h.split ∙ (ap (λ m. take m (left ++ h.gone)) (sym moved_place) ∙ take-append_seam left h.gone))
