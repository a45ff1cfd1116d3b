use Rattle.std.proofs.Common.{◌≡◌, ◌∙◌, ap, sym, refl, arith}
use Rattle.std.specs.Int.{div_ceil}
use Rattle.grid_base.proofs.Common.{row_count, col_count}
use Rattle.grid_pairs.proofs.PartLemmas.{tiles_fit, tiles_left, gives_tiles, tiles_size}
use Rattle.grid_pairs.proofs.parts.tiles.Goals as goal

pub overflow_mul-result : goal.overflow_mul-result
overflow_mul-result g c =
    let t = c.into_view-board.result in
    let down : c.div_ceil.result ≡ div_ceil (row_count t.rows) c.args.rows = c.div_ceil.ensures ∙ ap (λ x. div_ceil x c.args.rows) c.size-row_count.ensures.rows in
    let across : c.div_ceil-2.result ≡ div_ceil (col_count t.rows) c.args.cols = c.div_ceil-2.ensures ∙ ap (λ x. div_ceil x c.args.cols) c.size-row_count.ensures.cols in
    let fits = tiles_fit t.rows c.args.rows c.args.cols c.requires.tall c.requires.wide t.fits.cells in
    rw (down, across) (omega (arith, fits))

pub invariant_of-result : goal.invariant_of-result
invariant_of-result g c =
    let t = c.into_view-board.result in
    let down : c.div_ceil.result ≡ div_ceil (row_count t.rows) c.args.rows = c.div_ceil.ensures ∙ ap (λ x. div_ceil x c.args.rows) c.size-row_count.ensures.rows in
    let across : c.div_ceil-2.result ≡ div_ceil (col_count t.rows) c.args.cols = c.div_ceil-2.ensures ∙ ap (λ x. div_ceil x c.args.cols) c.size-row_count.ensures.cols in
    rw (down, across) (tiles_left t.rows c.args.rows c.args.cols c.requires.tall c.requires.wide t.fits.cells)

pub returns : goal.returns
returns g c =
    let t = c.into_view-board.result in
    let down = c.div_ceil.ensures ∙ ap (λ x. div_ceil x c.args.rows) c.size-row_count.ensures.rows in
    let across = c.div_ceil-2.ensures ∙ ap (λ x. div_ceil x c.args.cols) c.size-row_count.ensures.cols in
    rw (sym c.into_view-board.ensures) (record { gives = gives_tiles t.rows t.rows c.args.rows c.args.cols c.div_ceil.result c.div_ceil-2.result c.requires.tall c.requires.wide t.fits.cells refl down across; sizes = tiles_size t.rows t.rows c.args.rows c.args.cols c.div_ceil.result c.div_ceil-2.result c.requires.tall c.requires.wide t.fits.cells refl t.table down across })
