use Rattle.std.proofs.Common.{◌+◌, ◌-◌, ◌∙◌, ap, sym, refl}
use Rattle.grid_pairs.proofs.PartLemmas.{gives_windows, windows_size}
use Rattle.grid_pairs.proofs.parts.windows.Goals as goal

pub returns : goal.returns
returns g c =
    let t = c.into_view-board.result in
    let down = c.starts.ensures ∙ ap (λ x. x + 1 - c.args.rows) c.size-row_count.ensures.rows in
    let across = c.starts-2.ensures ∙ ap (λ x. x + 1 - c.args.cols) c.size-row_count.ensures.cols in
    rw (sym c.into_view-board.ensures) (record { gives = gives_windows t.rows t.rows c.args.rows c.args.cols c.starts.result c.starts-2.result c.requires.tall c.requires.wide t.fits.cells refl down across; sizes = windows_size t.rows t.rows c.args.rows c.args.cols c.starts.result c.starts-2.result c.requires.tall c.requires.wide t.fits.cells refl t.table down across })
