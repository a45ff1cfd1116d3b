-- The cells of several vectors.
use Rattle.std.specs.Prelude.{List, Vec, map, drop, take, length, ◌-◌}

module _ {T A : Type 0} where
  -- the cells of each vector
  abbrev pub items_of_each : List (Vec T A) → List (List T)
  items_of_each lines = map (λ line. line.items) lines

-- the last item of a list, if there is one, and the items before it
abbrev pub last_of : {T : Type 0} → List T → List T
last_of xs = drop (length xs - 1) xs

abbrev pub before_last : {T : Type 0} → List T → List T
before_last xs = take (length xs - 1) xs
