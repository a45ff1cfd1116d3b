-- What a contract sees of a vector of rows.
use Rattle.std.specs.Prelude.{◌≡◌, ℕ, ◌≤◌, List, Vec, length, map, take}
use Rattle.grid.specs.Prelude.{CommandValue, run_rows}
use Rattle.std.specs.declared.alloc.Global.{Global}

-- its rows
abbrev pub items_of_each : {T : Type 0} → Vec (Vec T Global) Global → List (List T)
items_of_each v = map (λ r. r.items) v.items

-- what a table is after the first `number` of the commands, where d is the cells' default
pub record AfterSome {T : Type 0} (d : T) (commands : List (CommandValue T))
    (old new : List (List T)) : Type 0 where
  pub number : ℕ
  pub within : number ≤ length commands
  pub rows : new ≡ run_rows d (take number commands) old
