-- Where the cells of a row are in the storage. No public clause cites this module.
use Rattle.std.specs.Prelude.{◌≡◌, ℕ, ◌+◌, ◌-◌, ◌*◌, ◌<◌, ◌≤◌}
use Rattle.std.specs.Int.{div_ceil}
use Rattle.grid_base.specs.declared.flat.span.Span.{Span}

-- the n cells at the places `at 0`, .., `at (n - 1)` are a stride apart from start on and before
-- end, among `cells` cells
pub record IsSpan (n : ℕ) (at : ℕ → ℕ) (cells : ℕ) (s : Span) : Type 0 where
  pub steps : 0 < s.stride
  pub ordered : s.start ≤ s.end
  pub within : s.end ≤ cells
  pub count : div_ceil (s.end - s.start) s.stride ≡ n
  pub places : (k : ℕ) → k < n → s.start + k * s.stride ≡ at k
  pub inside : (k : ℕ) → k < n → s.start + k * s.stride < s.end
