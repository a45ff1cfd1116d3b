use Rattle.std.proofs.Common.{refl, arith}
use Rattle.grid_paths.proofs.cheap_path.path_over.Goals as goal

pub path_by-requires : goal.path_by-requires
path_by-requires g c = c.if-is_small.ensures refl

pub path_by-requires-else-is_small : goal.path_by-requires-else-is_small
path_by-requires-else-is_small g c =
    let fits = c.args.costs.fits in
    let rows = fits.rows in
    let cols = fits.cols in
    let cells = fits.cells in
    record { rows = omega arith; cols = omega arith; sums = omega arith }
