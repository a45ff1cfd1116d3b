use Rattle.std.proofs.Common.{subst, sym, ◌∙◌}
use Rattle.grid_changes.specs.Timeline.{board_of}
use Rattle.grid_changes.specs.Change.{Fits}
use Rattle.grid_changes.proofs.ChangeLemmas.{put_inverts}
use Rattle.grid_changes.proofs.change.make_lines.Goals as goal

pub returns-in-Ok-clause-inverse : goal.returns-in-Ok-clause-inverse
returns-in-Ok-clause-inverse g c =
    let fits = subst (λ x. Fits x (board_of c.args.grid.now)) (sym c.replace.ensures.value ∙ c.in-Put.is) c.requires.fits in
    put_inverts c.args.grid.now c.put_lines.new.grid c.in-Put.axis c.in-Put.at c.rows-count.result c.in-Put.lines.rows c.in-Put.lines.table fits c.rows-count.ensures.rows c.in-Ok.ensures.rows c.put_lines.ensures.order
