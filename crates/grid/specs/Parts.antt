-- Parts of a table, and lines of a table that change places.
use Rattle.std.specs.Prelude.{ℕ, List, map, swap}
pub use Rattle.grid_view.specs.View.{sub_table}

-- a table whose columns a and b have changed places
abbrev pub cols_swapped : {T : Type 0} → ℕ → ℕ → List (List T) → List (List T)
cols_swapped a b t = map (λ line. swap line a b) t
