use Rattle.std.proofs.Common.{Some, sym, ap, ◌∙◌}
use Rattle.grid_changes.proofs.ChangeLemmas.{write_inverts}
use Rattle.grid_changes.proofs.change.make.Goals as goal

pub returns-in-Write-clause-inverse : goal.returns-in-Write-clause-inverse
returns-in-Write-clause-inverse g c =
    let fits = rw c.in-Write.is at c.requires.fits in
    write_inverts c.args.grid.now c.in-Write.row c.in-Write.col c.swap.new.x c.swap.new.y fits (c.get_unchecked_mut.ensures.item ∙ ap Some (sym c.swap.ensures.y_after))
