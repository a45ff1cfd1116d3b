-- What an iterator along a line for writing has left.
use Rattle.std.specs.Prelude.{◌≡◌, ℕ, ◌-◌, ⊤, Option, MatchOption, List, take, drop}
use Rattle.std.specs.Borrow.{GName, MutBor}
use Rattle.std.specs.Iterator.{YieldsFirstMut}
use Rattle.grid_base.specs.declared.flat.line_iter_mut.GridLineIterMut.{GridLineIterMut}
use Rattle.grid_base.specs.Strides.{every}

module _ {X : Type 0} where
  -- the cells that are left
  abbrev pub line_mut_rest : GridLineIterMut X → List X
  line_mut_rest it = every 0 (it.stride - 1) it.rest.now

  -- these and the cells of other lines between them and after them
  abbrev pub line_mut_cells : GridLineIterMut X → List X
  line_mut_cells it = it.rest.now

  -- the cells that the last step passed over; the iterator holds them for reading alone
  abbrev pub line_mut_passed : GridLineIterMut X → List X
  line_mut_passed it = it.passed.now

  -- how many places a step goes on
  abbrev pub line_mut_stride : GridLineIterMut X → ℕ
  line_mut_stride it = it.stride

  -- the ghost name of the reference to the part of the vector that is left
  abbrev pub line_mut_name : GridLineIterMut X → GName
  line_mut_name it = it.rest.ghost_name

  -- a step hands out the first cell of the line; the cells that it passes over, the cells ahead and
  -- the stride are as they were
  abbrev pub steps_along : GridLineIterMut X → Option (MutBor X) → GridLineIterMut X → Type 0
  steps_along s r t = YieldsFirstMut line_mut_rest s r t
      × MatchOption r ⊤ (λ _.
      (line_mut_passed t ≡ drop 1 (take (line_mut_stride s) (line_mut_cells s)))
      × (line_mut_cells t ≡ drop (line_mut_stride s) (line_mut_cells s)))
      × (line_mut_stride t ≡ line_mut_stride s)
