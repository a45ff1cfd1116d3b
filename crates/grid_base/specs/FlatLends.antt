-- What a `Flat` ends as, once a slice or an iterator for writing has ended.
use Rattle.std.specs.Prelude.{◌≡◌, ℕ, List, ◌++◌, take, drop, length}
use Rattle.std.specs.List.{refill}
use Rattle.std.specs.Borrow.{follows, Lends, Fml, RattleType, MutBor, Array}
use Rattle.std.specs.Slice.Iter.{iter_mut_name}
use Rattle.std.specs.declared.slice.IterMut.{IterMut}
use Rattle.std.specs.declared.alloc.Allocator.{Ghosts}
use Rattle.grid_base.specs.contracts.flat.Flat.{the_row}
use Rattle.grid_base.specs.declared.flat.line_iter_mut.GridLineIterMut.{GridLineIterMut}
use Rattle.grid_base.specs.declared.flat.indexed.IndexedIterMut.{IndexedIterMut}
use Rattle.grid_base.specs.GridLineIterMut.{line_mut_name, line_mut_cells}
use Rattle.grid_base.specs.IndexedIterMut.{indexed_mut_name}

-- cells with ws written over them from start on, as far as there are cells
abbrev pub written_from : {X : Type 0} → ℕ → List X → List X → List X
written_from start xs ws = refill (length xs) xs
    (take start xs ++ (ws ++ drop (length ws) (drop start xs)))

-- with all that the iterator holds written over them from start on, the cells are as they were
abbrev pub HoldsFrom : {X : Type 0} → ℕ → List X → GridLineIterMut X → Type 0
HoldsFrom start xs it = written_from start xs (line_mut_cells it) ≡ xs

module _ (T A : RattleType) (alloc : Ghosts A.Denot) (v : MutBor (List T.Denot)) where
  -- once the slice has ended, the cells are those that it was left with
  abbrev pub lends_slice : MutBor (List T.Denot) → Fml
  lends_slice s = Lends (the_row T A alloc) (Array T 0) v s (refill (length v.now) v.now)

  -- once the iterator has ended, there are as many cells; what they are is left to the iterator
  abbrev pub lends_cells : IterMut T.Denot → Fml
  lends_cells it = follows (the_row T A alloc) (Array T 0) v.ghost_name (iter_mut_name it)
      (refill (length v.now) v.now)

  abbrev pub lends_indexed : IndexedIterMut T.Denot → Fml
  lends_indexed it = follows (the_row T A alloc) (Array T 0) v.ghost_name (indexed_mut_name it)
      (refill (length v.now) v.now)

  -- the same, where the cells before start are as they were
  abbrev pub lends_line : ℕ → GridLineIterMut T.Denot → Fml
  lends_line start it = follows (the_row T A alloc) (Array T 0) v.ghost_name (line_mut_name it)
      (written_from start v.now)
