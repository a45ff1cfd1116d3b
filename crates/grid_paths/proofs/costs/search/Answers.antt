use Rattle.std.proofs.Common.{refl, arith}
use Rattle.grid_paths.proofs.costs.search.Goals as goal

pub search_by-requires : goal.search_by-requires
search_by-requires g c = c.if-is_small.ensures refl

pub search_by-requires-else-is_small : goal.search_by-requires-else-is_small
search_by-requires-else-is_small g c =
    let fits = c.args.costs.fits in
    let rows = fits.rows in
    let cols = fits.cols in
    let cells = fits.cells in
    record { rows = omega arith; cols = omega arith; sums = omega arith }
