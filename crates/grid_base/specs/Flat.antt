-- What a `Flat` ends as, where a `&mut` to a cell is returned.
use Rattle.std.specs.Prelude.{ℕ, List, slice_set}
use Rattle.std.specs.Borrow.{Lends, Fml, RattleType, MutBor}
use Rattle.std.specs.declared.alloc.Allocator.{Ghosts}
use Rattle.grid_base.specs.contracts.flat.Flat.{the_row}

module _ (T A : RattleType) (alloc : Ghosts A.Denot) (v : MutBor (List T.Denot)) where
  -- once the borrow r ends, the place has the last value written through r
  abbrev pub lends_place : ℕ → MutBor T.Denot → Fml
  lends_place i r = Lends (the_row T A alloc) T v r (slice_set v.now i)
