-- Cells that are made, or replaced, line by line. No public clause cites this module.
use Rattle.std.specs.Prelude.{◌≡◌, ◌⊎◌, ℕ, ◌+◌, ◌*◌, ◌<◌, ◌≤◌, Some, IsSomeAnd, List, length, slice_get}
use Rattle.grid_base.specs.declared.order.Order.{Order}
use Rattle.grid_base.specs.Order.{place}
use Rattle.grid_base.specs.Table.{row_count, col_count, cell}
use Rattle.grid_pairs.specs.Joined.{Joins}
use denote.Ref.{Bor}

module _ {F A B : Type 0} (takes : F → Bor A → Bor B → Type 0) (f : F) where
  -- the closure f can be called at references to the items of a list from place `start` on and to those
  -- of another
  pub record CallableAtRow (start : ℕ) (xs : List A) (ys : List B) : Type 0 where
    pub at : (k : ℕ) (p : Bor A) (q : Bor B) → slice_get xs (start + k) ≡ Some p.now
        → slice_get ys k ≡ Some q.now → takes f p q

  -- the same of the items at which column c of a table comes, row by row, and its cells
  pub record CallableAtCol (c : ℕ) (xs : List A) (u : List (List B)) : Type 0 where
    pub at : (i : ℕ) (p : Bor A) (q : Bor B) → slice_get xs (i * col_count u + c) ≡ Some p.now
        → cell u i c ≡ Some q.now → takes f p q

  -- the same of the items of a list and the cells of a table, row by row
  pub record CallableAtRows (xs : List A) (u : List (List B)) : Type 0 where
    pub at : (i j : ℕ) (p : Bor A) (q : Bor B) → slice_get xs (i * col_count u + j) ≡ Some p.now
        → cell u i j ≡ Some q.now → takes f p q

module _ {F A B C : Type 0} (returns : F → Bor A → Bor B → C → Type 0) (f : F) where
  -- after the old items come n answers, at the first items of two lists
  pub record Appended (n : ℕ) (xs : List A) (ys : List B) (old new : List C) : Type 0 where
    pub len : length new ≡ length old + n
    pub kept : (k : ℕ) → k < length old → slice_get new k ≡ slice_get old k
    pub answers : (k : ℕ) → k < n
        → IsSomeAnd (slice_get new (length old + k)) (Joins returns f (slice_get xs k) (slice_get ys k))

  -- the items are the answers at the first m rows of two tables, row by row
  pub record RowsJoined (m : ℕ) (t : List (List A)) (u : List (List B)) (cells : List C) : Type 0
    where
      pub len : length cells ≡ m * col_count t
      pub answers : (i j : ℕ) → i < m → j < col_count t
          → IsSomeAnd (slice_get cells (i * col_count t + j)) (Joins returns f (cell t i j) (cell u i j))

  -- the items are the answers at the cells of two tables, each at the place of its cell
  pub record Placed (o : Order) (t : List (List A)) (u : List (List B)) (items : List C) : Type 0 where
    pub len : length items ≡ row_count t * col_count t
    pub answers : (r c : ℕ) → r < row_count t → c < col_count t
        → IsSomeAnd (slice_get items (place o (row_count t) (col_count t) r c))
        (Joins returns f (cell t r c) (cell u r c))

module _ {F A B : Type 0} (returns : F → Bor A → Bor B → A → Type 0) (f : F) where
  -- the n items from place `start` on became answers at them and the first items of a list
  pub record Replaced (start n : ℕ) (ys : List B) (old new : List A) : Type 0 where
    pub len : length new ≡ length old
    pub others : (k : ℕ) → (k < start) ⊎ (start + n ≤ k) → slice_get new k ≡ slice_get old k
    pub answers : (k : ℕ) → k < n
        → IsSomeAnd (slice_get new (start + k)) (Joins returns f (slice_get old (start + k)) (slice_get ys k))

  -- the items became answers at them and the cells of the first m rows of a table, row by row
  pub record RowsReplaced (m : ℕ) (u : List (List B)) (old new : List A) : Type 0 where
    pub len : length new ≡ length old
    pub others : (k : ℕ) → m * col_count u ≤ k → slice_get new k ≡ slice_get old k
    pub answers : (i j : ℕ) → i < m → j < col_count u
        → IsSomeAnd (slice_get new (i * col_count u + j))
        (Joins returns f (slice_get old (i * col_count u + j)) (cell u i j))

  -- the items at which the first m cells of column c of a table come, row by row, became answers
  pub record ColReplaced (m c : ℕ) (u : List (List B)) (old new : List A) : Type 0 where
    pub len : length new ≡ length old
    pub others : (i j : ℕ) → j < col_count u → (j ≡ c → m ≤ i)
        → slice_get new (i * col_count u + j) ≡ slice_get old (i * col_count u + j)
    pub answers : (i : ℕ) → i < m → IsSomeAnd (slice_get new (i * col_count u + c))
        (Joins returns f (slice_get old (i * col_count u + c)) (cell u i c))

  -- the items at which the first n columns come became answers
  pub record ColsReplaced (n : ℕ) (u : List (List B)) (old new : List A) : Type 0 where
    pub len : length new ≡ length old
    pub others : (i j : ℕ) → j < col_count u → n ≤ j
        → slice_get new (i * col_count u + j) ≡ slice_get old (i * col_count u + j)
    pub answers : (i j : ℕ) → i < row_count u → j < n
        → IsSomeAnd (slice_get new (i * col_count u + j))
        (Joins returns f (slice_get old (i * col_count u + j)) (cell u i j))
