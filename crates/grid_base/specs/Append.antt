-- A list that ends with new items.
use Rattle.std.specs.Prelude.{◌≡◌, ℕ, List, ◌++◌, length, All}

-- n items of which each is as P says were put at the end
pub record AppendsEach {T : Type 0} (P : T → Type 0) (n : ℕ) (old new : List T) : Type 0 where
  pub fresh : List T
  pub number : length fresh ≡ n
  pub each : All P fresh
  pub appended : new ≡ old ++ fresh
