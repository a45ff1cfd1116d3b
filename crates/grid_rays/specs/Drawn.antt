-- What an iterator over a line keeps. No public clause cites this module.
use Rattle.std.specs.Prelude.{◌≡◌, ℕ, zero, suc, ◌+◌, ◌*◌, ◌/◌, ◌^◌, ◌<◌, Bool, true, false, List, [], ◌∷◌}
use Rattle.grid_rays.specs.Segments.{steps_between, point}

-- x is where i of i + j steps from a to b lead, rounded, and `past` what the rounding took off
pub record IsReached (a b i j x past : ℕ) : Type 0 where
  pub sum : (i + j) * x + past ≡ j * a + i * b + (i + j) / 2
  pub below : 0 < i + j → past < i + j
  pub still : i + j ≡ 0 → x ≡ a

-- the positions from step i on, of which j come after the first
abbrev pub segment_from : ℕ × ℕ → ℕ × ℕ → ℕ → ℕ → List (ℕ × ℕ)
segment_from a b i zero = point a b i 0 ∷ []
segment_from a b i (suc j) = point a b i (suc j) ∷ segment_from a b (i + 1) j

-- the same of an iterator that has ended or not
abbrev pub segment_left : Bool → ℕ × ℕ → ℕ × ℕ → ℕ → ℕ → List (ℕ × ℕ)
segment_left true a b i j = []
segment_left false a b i j = segment_from a b i j

-- a line from a to b has come to position `at` after i steps, and j are left
pub record IsDrawn (a b at past : ℕ × ℕ) (i j : ℕ) : Type 0 where
  pub rows : IsReached a.0 b.0 i j at.0 past.0
  pub cols : IsReached a.1 b.1 i j at.1 past.1
  pub total : i + j ≡ steps_between a b
  pub fits : i + j < 2 ^ 64
