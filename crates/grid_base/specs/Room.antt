-- Groups that move through a room on the stack. No public clause cites this module.
use Rattle.std.specs.Prelude.{◌≡◌, ◌+◌, ◌*◌, ◌<◌, List}
use Rattle.core.specs.Mem.Slots.{slots_len, IsFull}
use Rattle.core.specs.declared.slots.Slots.{Slots}
use Rattle.grid_base.specs.declared.flat.groups.Groups.{Groups}
use Rattle.grid_base.specs.declared.flat.room.Way.{Way}
use Rattle.grid_base.specs.declared.flat.room.Way.TheVariants.{In, Out}
use Rattle.grid_base.specs.Groups.{Woven}

module _ {T : Type 0} where
  -- the groups come into their lines from after them, or leave them
  abbrev pub GroupsMoved : Way → Groups → List T → List T → Type 0
  GroupsMoved In g old new = Woven g.lines g.width g.at g.count old new
  GroupsMoved Out g old new = Woven g.lines g.width g.at g.count new old

  -- the row is full of the cells of the lines and groups, and there are some
  pub record HasGroups (g : Groups) (row : Slots T) : Type 0 where
    pub full : IsFull row
    pub lines : 0 < g.lines
    pub some : 0 < slots_len row
    pub cells : slots_len row ≡ g.lines * (g.width + g.count)
