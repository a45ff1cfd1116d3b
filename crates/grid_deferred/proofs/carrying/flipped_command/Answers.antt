use Rattle.std.proofs.Common.{refl, ap, ◌∙◌}
use Rattle.grid_deferred.proofs.Lemmas.{map-reversed, between}
use Rattle.grid.specs.Prelude.{items_of_each}
use Rattle.grid_deferred.proofs.carrying.flipped_command.Goals as goal

pub returns-in-Apply : goal.returns-in-Apply
returns-in-Apply g c = rw c.in-Apply.is (between _ _ _ _ c.then.ensures c.then-in-Apply.ensures)

pub returns-in-InsertRows : goal.returns-in-InsertRows
returns-in-InsertRows g c =
    let reversed = ap items_of_each c.reversed-in-InsertRows.ensures ∙ map-reversed (λ line. line.items) c.in-InsertRows.lines.items in
    rw (c.in-InsertRows.is, c.mirrored_insertion-in-InsertRows.ensures, reversed) refl
