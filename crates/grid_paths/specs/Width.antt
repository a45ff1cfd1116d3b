-- The integers in which a search for the least costs counts. No public clause cites this module.
use Rattle.std.specs.Prelude.{ℕ, ◌+◌, ◌*◌, ◌/◌, ◌%◌, ◌^◌, ◌<◌, ◌≤◌, ◌==◌, Option, None, Some, List, map, cond}
use Rattle.grid_base.specs.Table.{row_count, col_count}

-- what integers of a type stand for: each has a value, and is a sum or none, and a position. Sums
-- are below `limit`, and rows and columns below `side`
pub record Reading (N : Type 0) : Type 0 where
  pub value : N → ℕ
  pub number : N → Option ℕ
  pub position : N → ℕ × ℕ
  pub limit : ℕ
  pub side : ℕ

-- in 64 bits, where the greatest integer stands for no sum
abbrev pub narrow : Reading ℕ
narrow =
    record {
      value = λ x. x;
      number = λ x. cond (x == 18446744073709551615) None (Some x);
      position = λ x. (x / 4294967296, x % 4294967296);
      limit = 18446744073709551615;
      side = 4294967296;
    }

-- in 128 bits
abbrev pub wide : Reading ℕ
wide =
    record {
      value = λ x. x;
      number = λ x. cond (x == 340282366920938463463374607431768211455) None (Some x);
      position = λ x. (x / 18446744073709551616, x % 18446744073709551616);
      limit = 340282366920938463463374607431768211455;
      side = 18446744073709551616;
    }

module _ {N : Type 0} where
  abbrev pub value_of : Reading N → N → ℕ
  value_of w x = w.value x

  abbrev pub number_of : Reading N → N → Option ℕ
  number_of w x = w.number x

  abbrev pub position_of : Reading N → N → ℕ × ℕ
  position_of w x = w.position x

  abbrev pub limit_of : Reading N → ℕ
  limit_of w = w.limit

  abbrev pub side_of : Reading N → ℕ
  side_of w = w.side

  -- the sums that a table holds
  abbrev pub numbers : Reading N → List (List N) → List (List (Option ℕ))
  numbers w t = map (map w.number) t

  -- the positions of a table fit, and the sums of the costs of its cells
  pub record HasRoom {T : Type 0} (w : Reading N) (t : List (List T)) : Type 0 where
    pub rows : row_count t < w.side
    pub cols : col_count t < w.side
    pub sums : 2 ^ 32 * (row_count t * col_count t + 1) ≤ w.limit
