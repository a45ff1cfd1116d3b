-- Rows that are cloned into vectors, or moved there.
use Rattle.std.specs.Prelude.{◌≡◌, ◌≤◌, ℕ, List, [], vec_capacity}
use Rattle.std.specs.List.{AllZip}
use Rattle.std.specs.declared.vec.Vec.{Vec}
use Rattle.grid_base.specs.Clones.{ClonesAreEqual}

-- each cell of copies is a clone of that of the rows, which are the same where clones equal their
-- source
pub record AreCopied {T : Type 0} (is_clone : T → T → Type 0) (rows copies : List (List T)) :
    Type 0 where
  pub each : AllZip (AllZip is_clone) rows copies
  pub same : ClonesAreEqual is_clone → copies ≡ rows

-- a vector without items, and with room for `count`
pub record IsRoomFor {T A : Type 0} (count : ℕ) (v : Vec T A) : Type 0 where
  pub none : v.items ≡ []
  pub room : count ≤ vec_capacity v
