-- An array of what was written of each item.
use Rattle.std.proofs.Common.{◌≡◌, List, [], ◌∷◌, ◌++◌, map, sym, ap, subst, ◌∙◌, append_assoc, append-nil}
use Rattle.grid_json.proofs.Common.{AllZip, map-append, pairs_pure, Data, view, AllZip-concat_rows, IsRows, MayBeRow, MayBeRows, array_of}
use Rattle.serde_json.specs.declared.value.Value.{Value}

-- the values of the items before those that are left
pub record ValuesSoFar {X : Type 0} (R : X → Data → Type 0) (all left : List X) (values : List Value) : Type 0 where
  pub before : List X
  pub parts : all ≡ before ++ left
  pub are : AllZip R before (map view values)

module _ {X : Type 0} (R : X → Data → Type 0) (all : List X) where
  pub values_start : (left : List X) (values : List Value) → left ≡ all → values ≡ [] → ValuesSoFar R all left values
  values_start left values is none = record { before = []; parts = sym is; are = rw none tt }

  module _ (left : List X) (values : List Value) (i : ValuesSoFar R all left values) where
    pub values_next : (later : List X) (x : X) (v : Value) (added : List Value) → left ≡ x ∷ later → R x (view v) → added ≡ values ++ v ∷ [] → ValuesSoFar R all later added
    values_next later x v added next one push = record {
      before = i.before ++ x ∷ [];
      parts = i.parts ∙ (ap (λ xs. i.before ++ xs) next ∙ sym (append_assoc i.before (x ∷ []) later));
      are = rw (push, map-append) (AllZip-concat_rows R i.before (x ∷ []) (map view values) (view v ∷ []) i.are (one, tt));
    }

    pub values_end : left ≡ [] → AllZip R all (map view values)
    values_end none = subst (λ xs. AllZip R xs (map view values)) (sym (i.parts ∙ (ap (λ xs. i.before ++ xs) none ∙ append-nil i.before))) i.are

-- what may be written is what a function writes, where it gives whatever may be written
module _ {T : Type 0} (R : T → Data → Type 0) (h : T → Data) (by : (x : T) (d : Data) → R x d → d ≡ h x) where
  items_are : (row : List T) (items : List Data) → AllZip R row items → items ≡ map h row
  items_are row items all = pairs_pure {R = R} {xs = row} {ys = items} (record { places = all }) h by

  rows_are : (rows : List (List T)) (items : List Data) → AllZip (MayBeRow R) rows items → items ≡ map (λ row. array_of (map h row)) rows
  rows_are rows items all =
      pairs_pure {R = MayBeRow R} {xs = rows} {ys = items} (record { places = all }) (λ row. array_of (map h row)) (λ row d m. m.is ∙ ap array_of (items_are row m.items m.are_items))

  pub is_rows : (rows : List (List T)) (d : Data) → MayBeRows R rows d → IsRows h rows d
  is_rows rows d m = record { is = m.is ∙ ap array_of (rows_are rows m.items m.are_items) }
