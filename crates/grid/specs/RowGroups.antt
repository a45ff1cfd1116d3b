-- Rows of a table as groups of cells of its vector. No public clause cites this module.
use Rattle.std.specs.Prelude.{◌≡◌, ℕ, ◌*◌, nat_eq, if◌then◌else◌}
use Rattle.grid_base.specs.declared.order.Order.{Order}
use Rattle.grid_base.specs.declared.order.Order.TheVariants.{RowMajor, ColumnMajor}

-- k rows before row i of a table of m rows and n columns are a group of g cells before place a of
-- each of p lines of q cells
abbrev pub RowGroups : Order → (m n i k p q a g : ℕ) → Type 0
RowGroups RowMajor m n i k p q a g = (p ≡ 1) × (q ≡ m * n) × (a ≡ i * n) × (g ≡ k * n)
RowGroups ColumnMajor m n i k p q a g = (p ≡ n) × (q ≡ m) × (a ≡ i) × (g ≡ k)

-- the number of columns where `rest` rows of n cells are left
abbrev pub cols_if_rows : ℕ → ℕ → ℕ
cols_if_rows rest n = if nat_eq rest 0 then 0 else n
