-- What a contract sees of a history: a grid, the boards before it and those undone.
use Rattle.std.specs.Prelude.{◌≡◌, ◌≢◌, ℕ, ◌*◌, List, [], ◌∷◌, ◌++◌, take, drop, reverse, slice_get, IsSomeAnd, MatchBool}
use Rattle.grid.specs.Prelude.{GridValue, CommandValue, row_count, col_count}
use Rattle.grid_base.specs.declared.order.Order.{Order}
use Rattle.grid_changes.specs.Entry.{is_step}

-- the rows and the order of a grid
pub record Board (T : Type 0) : Type 0 where
  pub rows : List (List T)
  pub order : Order

abbrev pub board_of : {T : Type 0} → GridValue T → Board T
board_of g = record { rows = g.rows; order = g.order }

-- a grid, the boards that were before it, the latest first, and those that were undone, the last
-- undone first
pub record Timeline (T : Type 0) : Type 0 where
  pub grid : GridValue T
  pub past : List (Board T)
  pub future : List (Board T)

-- how many cells a table has
abbrev pub cell_count : {T : Type 0} → List (List T) → ℕ
cell_count t = row_count t * col_count t

module _ {T : Type 0} where
  -- there is a first board of a list, and it has another number of cells than this one
  abbrev pub FirstHasOtherCount : List (Board T) → Board T → Type 0
  FirstHasOtherCount bs now = IsSomeAnd (slice_get bs 0)
      (λ b. cell_count b.rows ≢ cell_count now.rows)

  -- the board now, and those before it, the latest first
  abbrev pub boards_back : Timeline T → List (Board T)
  boards_back h = board_of h.grid ∷ h.past

  -- one step on: the board that was is the first of the past, and nothing is undone
  pub record IsStepOn (old new : Timeline T) : Type 0 where
    pub past : new.past ≡ board_of old.grid ∷ old.past
    pub future : new.future ≡ []

  -- one step back: the board is the first of the past, and the one that was is the first of those
  -- undone. A step that is done again is one from the new to the old
  pub record IsStepBack (old new : Timeline T) : Type 0 where
    pub past : old.past ≡ board_of new.grid ∷ new.past
    pub future : new.future ≡ board_of old.grid ∷ old.future

  -- k steps back: the boards up to the one that was k steps before are undone, the last undone first
  pub record IsBackBy (k : ℕ) (old new : Timeline T) : Type 0 where
    pub past : boards_back new ≡ drop k (boards_back old)
    pub future : new.future ≡ reverse (take k (boards_back old)) ++ old.future

  -- what a command leaves of the past and of the undone: a step on, or all as it was
  abbrev pub Recorded : CommandValue T → Timeline T → Timeline T → Type 0
  Recorded x old new = MatchBool (is_step x old.grid.rows) (IsStepOn old new) (new ≡ old)
