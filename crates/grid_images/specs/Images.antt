-- The images of a table: which are the same, which is the least.
use Rattle.std.specs.Prelude.{◌≡◌, ℕ, ◌<◌, Bool, IsTrue, not, Option, List, Contains, nat_eq, slice_index_or, take, filter, find}
use Rattle.std.specs.List.{list_any}
use Rattle.std.specs.Ordering.{is_le, on}
use Rattle.std.specs.declared.cmp.Ordering.{Ordering}
use Rattle.std.specs.declared.cmp.Ordering.TheVariants.{Less}
use lib.Pointwise.{pointwise}
use Rattle.grid_base.specs.Symmetry.{act, symmetries, IsThen, IsInverse}
use Rattle.grid_base.specs.declared.words.Symmetry.{Symmetry}
use Rattle.grid_base.specs.declared.words.Symmetry.TheVariants.{Identity, FlipCols, FlipRows, RotateHalf, Transpose, RotateLeft, RotateRight, AntiTranspose}
use Rattle.grid_images.specs.TableOrder.{table_cmp}

-- symmetry i of the eight, in the order of `Symmetry::ALL`
abbrev pub symmetry_at : ℕ → Symmetry
symmetry_at i = slice_index_or symmetries i Identity

-- which of the eight it is
abbrev pub number : Symmetry → ℕ
number Identity = 0
number FlipCols = 1
number FlipRows = 2
number RotateHalf = 3
number Transpose = 4
number RotateLeft = 5
number RotateRight = 6
number AntiTranspose = 7

-- whether two lists have the same symmetries, one by one
abbrev pub same_symmetries : List Symmetry → List Symmetry → Bool
same_symmetries ss us = pointwise (on number nat_eq) ss us

-- the image of t under s is the least of the eight, and less than those of the symmetries before s
pub record IsLeastImage {T : Type 0} (cmp : T → T → Ordering) (t : List (List T)) (s : Symmetry)
    : Type 0 where
  pub least : (u : Symmetry) → IsTrue (is_le (table_cmp cmp (act s t) (act u t)))
  pub first : (u : Symmetry) → number u < number s → table_cmp cmp (act s t) (act u t) ≡ Less

module _ {T : Type 0} (eq : T → T → Bool) where
  -- the tables have as many rows, each as many cells, and each cell is the other's
  abbrev pub same_table : List (List T) → List (List T) → Bool
  same_table t u = pointwise (pointwise eq) t u

  -- s takes t to u
  abbrev pub takes : List (List T) → List (List T) → Symmetry → Bool
  takes t u s = same_table (act s t) u

  -- s and u give the same image of t
  abbrev pub give_one_image : List (List T) → Symmetry → Symmetry → Bool
  give_one_image t s u = same_table (act s t) (act u t)

  -- u is an image of t
  pub record AreAlike (t u : List (List T)) : Type 0 where
    pub by : Symmetry
    pub is_image : IsTrue (takes t u by)

  -- the first symmetry that takes t to u
  unfoldable pub first_taking : List (List T) → List (List T) → Option Symmetry
  first_taking t u = find (takes t u) symmetries

  -- the symmetries that leave t as it is
  unfoldable pub fixing : List (List T) → List Symmetry
  fixing t = filter (takes t t) symmetries

  -- no symmetry before s gives the same image of t
  abbrev pub is_first : List (List T) → Symmetry → Bool
  is_first t s = not (list_any (λ u. give_one_image t u s) (take (number s) symmetries))

  -- of each image of t the first symmetry that gives it
  unfoldable pub first_images : List (List T) → List Symmetry
  first_images t = filter (is_first t) symmetries

  -- each image of t is that of one of these symmetries, and of no two of them
  pub record GivesEachImageOnce (t : List (List T)) (ss : List Symmetry) : Type 0 where
    pub each : (s : Symmetry)
        → (u : Symmetry) × Contains ss u × IsTrue (give_one_image t u s)
    pub once : (s u : Symmetry) → Contains ss s → Contains ss u
        → IsTrue (give_one_image t s u) → s ≡ u

-- s and then the inverse of u are one of these symmetries
pub record DiffersBy (ss : List Symmetry) (s u : Symmetry) : Type 0 where
  pub back : Symmetry
  pub joined : Symmetry
  pub undoes : IsInverse u back
  pub joins : IsThen s back joined
  pub member : Contains ss joined

-- symmetries that are a group
pub record IsGroup (ss : List Symmetry) : Type 0 where
  pub identity : Contains ss Identity
  pub joined : (s u v : Symmetry) → Contains ss s → Contains ss u → IsThen s u v → Contains ss v
  pub inverse : (s v : Symmetry) → Contains ss s → IsInverse s v → Contains ss v
