-- A list of changes as the boards to which they lead. No public clause cites this module.
use Rattle.std.specs.Prelude.{◌≡◌, ⊤, ℕ, ◌≤◌, List, [], ◌∷◌, length, take, drop, reverse, IsSomeAnd, Some, slice_get, slice_set}
use Rattle.grid.specs.Prelude.{GridValue}
use Rattle.grid_changes.specs.declared.change.Change.{Change}
use Rattle.grid_changes.specs.Timeline.{Board, board_of, Timeline}
use Rattle.grid_changes.specs.Change.{Fits, after, Inverts}

module _ {T A : Type 0} where
  -- the boards to which changes lead, one after another
  abbrev pub boards_along : List (Change T A) → Board T → List (Board T)
  boards_along [] b = []
  boards_along (x ∷ xs) b = after x b ∷ boards_along xs (after x b)

  -- each of them can be made where the one before it led
  abbrev pub Lead : List (Change T A) → Board T → Type 0
  Lead [] b = ⊤
  Lead (x ∷ xs) b = Fits x b × Lead xs (after x b)

  -- what takes the done steps back, the latest first, and what does those again that were undone
  abbrev pub back_from : List (Change T A) → ℕ → List (Change T A)
  back_from xs done = reverse (take done xs)

  abbrev pub on_from : List (Change T A) → ℕ → List (Change T A)
  on_from xs done = drop done xs

  abbrev pub timeline_of : GridValue T → List (Change T A) → ℕ → Timeline T
  timeline_of g xs done = record {
    grid = g;
    past = boards_along (back_from xs done) (board_of g);
    future = boards_along (on_from xs done) (board_of g);
  }

  -- the changes of a list lead on from a grid, back and on
  pub record AreSteps (g : GridValue T) (xs : List (Change T A)) (done : ℕ) : Type 0 where
    pub within : done ≤ length xs
    pub back : Lead (back_from xs done) (board_of g)
    pub on : Lead (on_from xs done) (board_of g)

  -- the change at a place of a list can be made
  abbrev pub FitsAt : List (Change T A) → ℕ → GridValue T → Type 0
  FitsAt xs at g = IsSomeAnd (slice_get xs at) (λ x. Fits x (board_of g))

  -- the change x at a place of a list was made, and y, which takes it back, is in its place
  pub record HasTurned (at : ℕ) (old : GridValue T) (xs : List (Change T A)) (new : GridValue T)
      (ys : List (Change T A)) : Type 0 where
    pub x : Change T A
    pub y : Change T A
    pub was : slice_get xs at ≡ Some x
    pub now : ys ≡ slice_set xs at y
    pub made : board_of new ≡ after x (board_of old)
    pub back : Inverts y (board_of new) (board_of old)
