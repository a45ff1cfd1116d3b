use Rattle.std.proofs.Common.{sym, arith, rules}
use Rattle.grid_base.proofs.Common.{common_steps}
use Rattle.grid_base.proofs.Lemmas.{part_behind}
use Rattle.grid_base.proofs.flat.Flat.reverse_for_symmetry.Goals as goal

pub returns-clause-cells : goal.returns-clause-cells
returns-clause-cells g c =
    let h = part_behind c.args.start _ _ _ _ (sym c.split_at_mut-rest.ensures.front_len) c.swap_mirrored-swaps.ensures.cells in
    grind (arith, common_steps, h)

pub returns-clause-symmetry : goal.returns-clause-symmetry
returns-clause-symmetry = search rules
