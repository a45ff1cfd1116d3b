-- The tiles and the windows of a table, row by row.
use Rattle.std.specs.Prelude.{◌≡◌, ℕ, ◌+◌, ◌-◌, ◌*◌, ◌/◌, ◌%◌, ◌^◌, ◌<◌, ◌≤◌, IsTrue, Bool, min, List, length, map}
use Rattle.std.specs.Int.{div_ceil}
use Rattle.std.specs.Iterator.{YieldsFirstBy, YieldsLastBy}
use Rattle.std.specs.Iterator.Runs.{EveryRun, EachRunFrom, AllItems, ItemsMapTo, ItemsMapToReversed}
use Rattle.std.specs.List.{range_with_len}
use Rattle.grid_base.specs.Table.{row_count, col_count}
use Rattle.grid_base.specs.Remaining.{remaining}
use Rattle.grid_view.specs.Value.{ViewValue}
use Rattle.grid_view.specs.View.{sub_table}

-- what f says of each of p rows and q columns, row by row: item k is of row k / q and column k % q
abbrev pub in_turn : {X : Type 0} → ℕ → ℕ → (ℕ → ℕ → X) → List X
in_turn p q f = map (λ k. f (k / q) (k % q)) (range_with_len 0 (p * q))

module _ {T : Type 0} (t : List (List T)) where
  -- the part of size.0 rows and size.1 columns from position `at` on, or of as many as there are
  abbrev pub part_of : ℕ × ℕ → ℕ × ℕ → List (List T)
  part_of at size =
      sub_table t at (min size.0 (row_count t - at.0), min size.1 (col_count t - at.1))

  -- the parts into which t is cut, each of h rows and w columns, but fewer in the last ones where that
  -- doesn't divide
  abbrev pub tiles : ℕ → ℕ → List (List (List T))
  tiles h w = in_turn (div_ceil (row_count t) h) (div_ceil (col_count t) w)
      (λ i j. part_of (i * h, j * w) (h, w))

  -- every part of h rows and w columns
  abbrev pub windows : ℕ → ℕ → List (List (List T))
  windows h w = in_turn (row_count t + 1 - h) (col_count t + 1 - w)
      (λ i j. sub_table t (i, j) (h, w))

  -- the parts whose first corners are a step apart
  abbrev pub parts_at : ℕ × ℕ → ℕ × ℕ → ℕ × ℕ → List (List (List T))
  parts_at step size count = in_turn count.0 count.1
      (λ i j. part_of (i * step.0, j * step.1) size)

  -- the parts whose first corners are a step apart, from that in row r and column c of them on, `left` of
  -- them
  abbrev pub parts_from : ℕ × ℕ → ℕ × ℕ → ℕ × ℕ → ℕ → ℕ → ℕ → List (List (List T))
  parts_from step size count r c left =
      remaining (r * count.1 + c) (r * count.1 + c + left) (parts_at step size count)

  -- these parts are some, each begins within the table, and is within it where `whole` says so; and
  -- `left` of them are left, from that in row r and column c on
  pub record ArePartsLeft (step size : ℕ × ℕ) (whole : Bool) (count : ℕ × ℕ) (r c left : ℕ) : Type 0
    where
      pub tall : 0 < size.0
      pub wide : 0 < size.1
      pub down : (i : ℕ) → i < count.0 → i * step.0 < row_count t
      pub across : (j : ℕ) → j < count.1 → j * step.1 < col_count t
      pub fits : IsTrue whole → ((i : ℕ) → i < count.0 → i * step.0 + size.0 ≤ row_count t)
          × ((j : ℕ) → j < count.1 → j * step.1 + size.1 ≤ col_count t)
      pub below : count.0 * count.1 < 2 ^ 64
      pub within : r * count.1 + c + left ≤ count.0 * count.1
      pub col_in : 0 < left → c < count.1

module _ (T : Type 0) where
  -- each run of an iterator over parts gives those that it had left, in order
  abbrev pub PartsInOrder : Type 0
  PartsInOrder = EveryRun (YieldsFirstBy (λ (part : ViewValue T). part.rows) (λ rest. rest))
      (λ p. ItemsMapTo p (λ part. part.rows) p.from)

  -- the same from its end, in reverse
  abbrev pub PartsInReverse : Type 0
  PartsInReverse = EveryRun (YieldsLastBy (λ (part : ViewValue T). part.rows) (λ rest. rest))
      (λ p. ItemsMapToReversed p (λ part. part.rows) p.from)

-- an iterator over parts gives these, whose number fits a `usize`
abbrev pub GivesParts : {T : Type 0} → List (List (List T)) → List (List (List T)) → Type 0
GivesParts {T} parts it = (it ≡ parts) × PartsInOrder T × PartsInReverse T × (length it < 2 ^ 64)

-- each part that an iterator gives has h rows and w columns
abbrev pub GivesSize : {T : Type 0} → ℕ → ℕ → List (List (List T)) → Type 0
GivesSize {T} h w it = EachRunFrom (YieldsFirstBy (λ (part : ViewValue T). part.rows) (λ rest. rest)) it
    (λ p. AllItems p (λ part. (row_count part.rows ≡ h) × (col_count part.rows ≡ w)))

-- each part that an iterator gives has cells, in at most h rows and w columns
abbrev pub GivesUpTo : {T : Type 0} → ℕ → ℕ → List (List (List T)) → Type 0
GivesUpTo {T} h w it = EachRunFrom (YieldsFirstBy (λ (part : ViewValue T). part.rows) (λ rest. rest)) it
    (λ p. AllItems p (λ part. (0 < row_count part.rows) × (row_count part.rows ≤ h)
    × (0 < col_count part.rows) × (col_count part.rows ≤ w)))
