use Rattle.std.proofs.Common.{◌≡◌, ◌*◌, length, ap, arith}
use Rattle.std.proofs.lemmas.Bool.{ltb-true}
use Rattle.grid_paths.proofs.Common.{length-storage}
use Rattle.grid_paths.proofs.Lemmas.{HasRoom-narrow}
use Rattle.grid_base.specs.Table.{row_count, col_count}
use Rattle.grid_paths.proofs.costs.is_small.Goals as goal

pub returns : goal.returns
returns g c =
    λ less.
    let costs = c.args.costs.now in
    let len : row_count costs.rows * col_count costs.rows ≡ c.len.result = omega (arith, length-storage costs.order costs.rows costs.table, ap length c.flatten.ensures, c.flatten.result.now.ok.0, c.len.ensures) in
    HasRoom-narrow costs.rows costs.table (omega (arith, len, ltb-true c.len.result 4294967295 less))
