-- The records of bytes, one after the other.
use Rattle.std.proofs.Common.{◌≡◌, ◌⊎◌, inl, inr, if◌then◌else◌, add-one, length-append, ◌<◌, ◌+◌, ℕ, zero, suc, Bool, true, false, Option, Some, None, List, [], ◌∷◌, ◌++◌, length, refl, sym, ap, ◌∙◌, arith, Bor}
use Rattle.grid_csv.proofs.Common.{Read, next_record, step, is_end, ends_at_end, fields_after, field_after, ReadRecord, Reached, default_config, is_flexible, took_first, records_from, records_next, rows-end, rows-more, HasLeft, Took, records_at}
use Rattle.csv.specs.declared.parser.Config.{Config}
use Rattle.csv.specs.declared.parser.State.{State}
use Rattle.csv.specs.declared.parser.Action.{Action}
use Rattle.csv.specs.declared.reader.Reader.{Reader}
use Rattle.csv.specs.declared.parser.Action.TheVariants as act
use Rattle.csv.specs.declared.parser.State.TheVariants as st

-- a record that was read leaves fewer bytes, or was the last
record Shrinks (xs : List ℕ) (p : Read) : Type 0 where
  how : (length p.2 < length xs) ⊎ ((p.1 ≡ st.StartRecord) × (p.2 ≡ []))

shrinks_more : (x : ℕ) (xs : List ℕ) (p : Read) → Shrinks xs p → Shrinks (x ∷ xs) p
shrinks_more x xs p h = record { how = elim h.how [ inl less ↦ inl (omega arith) | inr last ↦ inr last ] }

shrinks_at_end : (b : Bool) (f : List (List ℕ)) (p : Read) → (if b then Some (f, st.StartRecord, []) else None) ≡ Some p → Shrinks [] p
shrinks_at_end true f p e =
    let fst : (f, st.StartRecord, []) ≡ p = cc in
    record { how = inr (sym (ap (λ (q : Read). q.1) fst), sym (ap (λ (q : Read). q.2) fst)) }
shrinks_at_end false f p e = absurd (cc)

shrinks_step : (b : Bool) (x : ℕ) (xs : List ℕ) (now p : Read) (later : Option Read) → (if b then Some now else later) ≡ Some p → now.2 ≡ xs → (later ≡ Some p → Shrinks xs p) → Shrinks (x ∷ xs) p
shrinks_step true x xs now p later e rest more =
    let fst : now ≡ p = cc in
    let len : length p.2 ≡ length xs = sym (ap (λ (q : Read). length q.2) fst) ∙ ap length rest in
    record { how = inl (omega arith) }
shrinks_step false x xs now p later e rest more = shrinks_more x xs p (more e)

shrinks : (cfg : Config) (s : State) (fields : List (List ℕ)) (field xs : List ℕ) (p : Read) → next_record cfg s fields field xs ≡ Some p → Shrinks xs p
unfolding next_record
shrinks cfg s fields field [] p e = shrinks_at_end (ends_at_end s) (fields ++ (field ∷ [])) p e
shrinks cfg s fields field (x ∷ xs) p e =
    let t = step cfg s x in
    shrinks_step (is_end t.1) x xs (fields_after t.1 fields field, t.0, xs) p (next_record cfg t.0 (fields_after t.1 fields field) (field_after t.1 x field) xs) e refl
    (shrinks cfg t.0 (fields_after t.1 fields field) (field_after t.1 x field) xs p)

none_left : (cfg : Config) (n : ℕ) → records_from cfg n st.StartRecord [] ≡ []
unfolding records_from next_record
none_left cfg zero = refl
none_left cfg (suc n) = refl

-- enough turns give every record
same_records : (cfg : Config) (m n : ℕ) (s : State) (xs : List ℕ) → length xs < m → length xs < n → records_from cfg m s xs ≡ records_from cfg n s xs
unfolding records_from
same_records cfg zero n s xs a b = absurd (omega arith)
same_records cfg (suc m) zero s xs a b = absurd (omega arith)
same_records cfg (suc m) (suc n) s xs a b = by_next (next_record cfg s [] [] xs) (λ p e. shrinks cfg s [] [] xs p e) (λ t ys less. same_records cfg m n t ys (omega arith) (omega arith))
  where
    by_next : (o : Option Read) → ((p : Read) → o ≡ Some p → Shrinks xs p) → ((t : State) (ys : List ℕ) → length ys < length xs → records_from cfg m t ys ≡ records_from cfg n t ys) → records_next (records_from cfg m) o ≡ records_next (records_from cfg n) o
    by_next None is later = refl
    by_next (Some p) is later = ap (λ (rs : List (List (List ℕ))). p.0 ∷ rs) (elim (is p refl).how [
      | inl less ↦ later p.1 p.2 less
      | inr last ↦ rw (last.0, last.1) (none_left cfg m ∙ sym (none_left cfg n))
    ])

-- the first record, and those after it
pub records_first : (s : State) (xs : List ℕ) (p : Read) → next_record default_config s [] [] xs ≡ Some p → records_at s xs ≡ p.0 ∷ records_at p.1 p.2
unfolding records_from
records_first s xs p is =
    let cfg = default_config in
    rw add-one (rw is (ap (λ (rs : List (List (List ℕ))). p.0 ∷ rs) (elim (shrinks cfg s [] [] xs p is).how [
      | inl less ↦ same_records cfg (length xs) (length p.2 + 1) p.1 p.2 less (omega arith)
      | inr last ↦ rw (last.0, last.1) (none_left cfg (length xs) ∙ sym (none_left cfg 1))
    ])))

pub records_none : (s : State) (xs : List ℕ) → next_record default_config s [] [] xs ≡ None → records_at s xs ≡ []
unfolding records_from
records_none s xs is = rw add-one (rw is refl)

-- each record has a field
fields_at_end : (b : Bool) (f : List (List ℕ)) (field : List ℕ) (p : Read) → (if b then Some (f ++ field ∷ [], st.StartRecord, []) else None) ≡ Some p → 0 < length p.0
fields_at_end true f field p e =
    let fst : (f ++ field ∷ [], st.StartRecord, []) ≡ p = cc in
    let len : length p.0 ≡ length f + 1 = sym (ap (λ (q : Read). length q.0) fst) ∙ length-append f (field ∷ []) in
    omega arith
fields_at_end false f field p e = absurd (cc)

pub some_fields : (cfg : Config) (s : State) (fields : List (List ℕ)) (field xs : List ℕ) (p : Read) → next_record cfg s fields field xs ≡ Some p → 0 < length p.0
unfolding next_record
some_fields cfg s fields field [] p e = fields_at_end (ends_at_end s) fields field p e
some_fields cfg s fields field (x ∷ xs) p e =
    let t = step cfg s x in
    by_action t.1 t.0 e (some_fields cfg t.0 (fields_after t.1 fields field) (field_after t.1 x field) xs p)
  where
    by_action : (a : Action) (s2 : State) → (if is_end a then Some (fields_after a fields field, s2, xs) else next_record cfg s2 (fields_after a fields field) (field_after a x field) xs) ≡ Some p
        → (next_record cfg s2 (fields_after a fields field) (field_after a x field) xs ≡ Some p → 0 < length p.0) → 0 < length p.0
    by_action act.Skip s2 e more = more e
    by_action act.Copy s2 e more = more e
    by_action act.EndField s2 e more = more e
    by_action act.EndRecord s2 e more =
        let fst : (fields ++ field ∷ [], s2, xs) ≡ p = cc in
        let len : length p.0 ≡ length fields + 1 = sym (ap (λ (q : Read). length q.0) fst) ∙ length-append fields (field ∷ []) in
        omega arith

-- a read that found a record gave the first of those that were left
module _ (old new : Reader (Bor (List ℕ))) (fields : List (List ℕ)) (left : List (List (List ℕ))) (has : HasLeft old left) (flexible : is_flexible new ≡ is_flexible old) where
  pub found_one : ReadRecord (λ s. Some s.now) old new true fields → took_first new ≡ true → Took left fields new
  unfolding Reached
  found_one r first =
      let (z, source, reached) = rows-more (λ (s : Bor (List ℕ)). Some s.now) old new fields default_config old.state has.rest has.rest [] has.config has.source (refl, refl) r in
      let reads : (p : Read) × (next_record default_config old.state [] [] has.rest ≡ Some p) × (fields ≡ p.0) × ((p.1 ≡ new.state) × (p.2 ≡ z)) = reached in
      let (p, next, fields_are, (state, rest)) = reads in
      record {
        later = records_at p.1 p.2;
        first = has.is_left ∙ (records_first old.state has.rest p next ∙ ap (λ (f : List (List ℕ)). f ∷ records_at p.1 p.2) (sym fields_are));
        some = rw fields_are (some_fields default_config old.state [] [] has.rest p next);
        leaves = record {
          trims = r.3 ∙ has.trims;
          ready = inl first;
          config = r.2 ∙ has.config;
          flexible = flexible ∙ has.flexible;
          rest = z;
          source = source;
          is_left = rw (state, rest) refl;
        };
      }

  pub found_none : ReadRecord (λ s. Some s.now) old new false fields → left ≡ []
  found_none r = has.is_left ∙ records_none old.state has.rest (rows-end (λ (s : Bor (List ℕ)). Some s.now) old new fields default_config has.rest has.config has.source r)
