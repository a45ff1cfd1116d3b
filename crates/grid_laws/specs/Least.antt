-- Swaps of the items at two places, one after another, and the least number of them that makes one
-- list of another.
use Rattle.std.specs.Prelude.{◌≡◌, ◌≢◌, ℕ, ◌-◌, ◌<◌, ◌≤◌, ⊤, Some, List, [], ◌∷◌, ◌++◌, length, take, replicate, swap}
use Rattle.grid.specs.Prelude.{cell, InRange, saturating_count, Edit, delete_at, delete_range, expand, prepend, CommandValue, lines}

-- both places of each pair are below n
abbrev pub AreWithin : ℕ → List (ℕ × ℕ) → Type 0
AreWithin n [] = Unit {0}
AreWithin n (p ∷ ps) = ((p.0 < n) × (p.1 < n)) × AreWithin n ps

module _ {T : Type 0} where
  -- the list after swaps at these pairs of places, one after another
  abbrev pub swapped_all : List (ℕ × ℕ) → List T → List T
  swapped_all [] xs = xs
  swapped_all (p ∷ ps) xs = swapped_all ps (swap xs p.0 p.1)

  -- these swaps bring the items of the new list to its places; what a longer old list has besides
  -- is after them
  pub record Makes (swaps : List (ℕ × ℕ)) (old new : List T) : Type 0 where
    pub within : AreWithin (length old) swaps
    pub front : take (length new) (swapped_all swaps old) ≡ new

  -- some k swaps make the new list of the old one, and all swaps that do are at least k
  pub record IsLeast (k : ℕ) (old new : List T) : Type 0 where
    pub reached : (swaps : List (ℕ × ℕ)) × (length swaps ≡ k) × Makes swaps old new
    pub least : (swaps : List (ℕ × ℕ)) → Makes swaps old new → k ≤ length swaps

  -- a count grew by the least number of swaps that make the new list of the old one
  pub record GrewByLeast (before after : ℕ) (old new : List T) : Type 0 where
    pub count : ℕ
    pub least : IsLeast count old new
    pub grew : after ≡ saturating_count before count

  -- no two positions of a table have the same cell
  pub record HasDifferentCells (t : List (List T)) : Type 0 where
    pub different : (r c i j : ℕ) → InRange t r c → InRange t i j → cell t r c ≡ cell t i j
        → (r ≡ i) × (c ≡ j)

  -- no cell of a table is d
  pub record Lacks (d : T) (t : List (List T)) : Type 0 where
    pub lacks : (r c : ℕ) → InRange t r c → cell t r c ≢ Some d

  -- a list and, after it, as many items d as it has fewer than n
  abbrev pub filled_up : T → ℕ → List T → List T
  filled_up d n xs = xs ++ replicate (n - length xs) d

  -- an edit is a delete, or a padding whose cell d no cell of the table is
  abbrev pub EditShifts : T → List (List T) → Edit T → Type 0
  EditShifts d t (delete_at i) = ⊤
  EditShifts d t (delete_range i k) = ⊤
  EditShifts d t (expand k) = Lacks d t
  EditShifts d t (prepend k) = Lacks d t
  -- every edit but padding and a delete
  EditShifts d t e = ⊥

  -- a command is such an edit, of rows or of columns
  abbrev pub Shifts : T → List (List T) → CommandValue T → Type 0
  Shifts d t (lines a e) = EditShifts d t e
  -- every command that is no edit of lines
  Shifts d t x = ⊥
