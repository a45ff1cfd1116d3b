use Rattle.std.proofs.Common.{sym, arith}
use Rattle.grid_base.proofs.Common.{common_steps}
use Rattle.grid_base.proofs.Lemmas.{blocks_behind}
use Rattle.grid_base.proofs.flat.Flat.swap_blocks_for_symmetry.Goals as goal

pub returns-clause-cells : goal.returns-clause-cells
returns-clause-cells g c =
    let h = blocks_behind c.args.i c.args.j _ c.args.n _ _ _ (sym c.split_at_mut-rest.ensures.front_len) (omega arith) c.swap_blocks-swaps.ensures.cells in
    grind (arith, common_steps, h)
