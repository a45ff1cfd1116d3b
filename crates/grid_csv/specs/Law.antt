-- Cells that are read as they were written.
use Rattle.std.specs.Prelude.{◌≡◌, ℕ, Option, Some, List, Result, Ok}
use denote.Ref.{Bor}
use Rattle.std.specs.declared.alloc.AllocError.{AllocError}
use Rattle.csv.specs.Reading.{strip_bom}

-- the text w x of the cell x does not begin with a byte order mark, and whatever the closure answers
-- at it is a cell that S allows for x
pub record ReadsBack {F T : Type 0} (w : T → List ℕ)
    (returns : F → Bor (List ℕ) → Result (Option T) AllocError → Type 0) (read : F)
    (S : T → T → Type 0) (x : T) : Type 0 where
  pub no_mark : strip_bom (w x) ≡ w x
  pub reads : (text : Bor (List ℕ)) (cell : Option T) → text.now ≡ w x → returns read text (Ok cell)
      → (y : T) × (cell ≡ Some y) × S x y
