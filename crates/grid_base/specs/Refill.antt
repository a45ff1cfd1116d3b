-- Cells that wait in a room on the stack while clones are made in their places. No public clause cites this module.
use Rattle.std.specs.Prelude.{◌≡◌, ℕ, ◌<◌, ◌≤◌, List, length, replicate, Result, OnOk, OnErr, slice_index_or}
use Rattle.grid_base.specs.Clones.{ClonesAreEqual}

module _ {T : Type 0} where
  -- every cell is a clone of the value, or all are as they were
  pub record FilledBy {R E : Type 0} (is_clone : T → T → Type 0) (value : T) (old new : List T) (done : Result R E) : Type 0 where
    pub ok : OnOk done (ClonesAreEqual is_clone → new ≡ replicate (length old) value)
    pub err : OnErr done (new ≡ old)

  -- the first n cells are those of the room, the others as before
  pub record PutBack (n : ℕ) (room old new : List T) : Type 0 where
    pub first : (k : ℕ) (d : T) → k < n → slice_index_or new k d ≡ slice_index_or room k d
    pub rest : (k : ℕ) (d : T) → n ≤ k → slice_index_or new k d ≡ slice_index_or old k d
