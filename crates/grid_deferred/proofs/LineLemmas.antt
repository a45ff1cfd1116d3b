-- What the code of `carry` needs.
use Rattle.std.proofs.Common.{◌≡◌, ℕ, ◌+◌, ◌<◌, List, Vec, [], ◌∷◌, ◌++◌, length, map, take, drop, set, get_or, reverse, sym, ◌∙◌, ap, arith, length-append, length-drop, length-take}
use Rattle.grid_deferred.proofs.Common.{length-map, map-set, get_or-map, map_over_more, items_of_each, IsThen, symmetry_of, product, then_is, symmetry_of-product_from, identity_product}
use Rattle.grid_base.specs.declared.words.Symmetry.{Symmetry}
use Rattle.grid_commands.specs.Command.{CommandValue, apply}

-- a symmetry between two others, joined one by one
pub between : {T : Type 0} (g u v w : Symmetry) → IsThen g u v → IsThen v g w → ◌≡◌ {A = CommandValue T} (apply w) (apply (symmetry_of (g ∷ u ∷ g ∷ [])))
between g u v w first last =
    ap apply
    (then_is v g w last
    ∙ (ap (λ x. product x g) (then_is g u v first)
    ∙ sym (symmetry_of-product_from (g ∷ u ∷ g ∷ []) ∙ ap (λ x. product (product x u) g) (identity_product g))))

module _ {T A : Type 0} where
  -- one line more is reversed
  pub each_more : (xs ys : List (Vec T A)) (i : ℕ) (v w : Vec T A) → i < length ys → items_of_each ys ≡ map reverse (take i (items_of_each xs)) ++ drop i (items_of_each xs) → w.items ≡ reverse (get_or ys i v).items → items_of_each (set ys i w) ≡ map reverse (take (i + 1) (items_of_each xs)) ++ drop (i + 1) (items_of_each xs)
  each_more xs ys i v w lt e is =
      let X = items_of_each xs in
      let len : length ys ≡ length X =
      sym (length-map ys (λ line. line.items))
      ∙ (ap length e ∙ omega (arith, length-append (map reverse (take i X)) (drop i X), length-map (take i X) reverse, length-take i X, length-drop i X, ap length e, length-map ys (λ line. line.items))) in
      map-set (λ line. line.items) ys i w
      ∙ (ap (set (items_of_each ys) i) is
      ∙ map_over_more reverse X (items_of_each ys) i (get_or ys i v).items (omega (arith, len)) e (sym (get_or-map (λ line. line.items) ys i v (get_or ys i v).items lt)))
