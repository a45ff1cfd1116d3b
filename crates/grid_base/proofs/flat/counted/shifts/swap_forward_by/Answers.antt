use Rattle.std.proofs.Common.{◌≡◌, ◌+◌, sym, ◌∙◌, ap, arith}
use Rattle.grid_base.proofs.Common.{swapped_forward}
use Rattle.grid_base.proofs.Lemmas.{forward_swap}
use Rattle.grid_base.proofs.flat.counted.shifts.swap_forward_by.Goals as goal

pub loop-k-preserved : goal.loop-k-preserved
loop-k-preserved g c =
    let inv = c.loop-k.invariant in
    let swapped = c.swap_for_shift.ensures in
    let done = c.loop-done.done + c.loop-k.k in
    let more : c.loop-done.done + (c.loop-k.k + 1) ≡ done + 1 = omega arith in
    record {
      run = forward_swap c.args.start g.row.SHIFT done c.args.cells.now c.loop-k.cells c.swap_for_shift.new.cells inv.run swapped.cells ∙ ap (λ m. swapped_forward c.args.start g.row.SHIFT m c.args.cells.now) (sym more);
      symmetry = swapped.symmetry ∙ inv.symmetry;
      shift = omega (arith, swapped.shift, inv.shift);
    }
