use Rattle.std.proofs.Common.{Some, sym, ap, ◌∙◌}
use Rattle.grid_changes.proofs.ChangeLemmas.{write_inverts}
use Rattle.grid_changes.proofs.change.write.Goals as goal

pub returns-clause-inverse : goal.returns-clause-inverse
returns-clause-inverse g c =
    write_inverts c.args.grid.now c.args.row c.args.col c.replace.new.dest c.replace.result c.requires.within (c.get_unchecked_mut.ensures.item ∙ ap Some (sym c.replace.ensures.value))
