use Rattle.std.proofs.Common.{refl, arith}
use Rattle.grid.proofs.Lemmas.{reversing_none, reversing_more, reversing_all, lines_apart, lines_within}
use Rattle.grid.proofs.symmetry.passes.reverse_lines.Goals as goal

pub loop-line-init : goal.loop-line-init
loop-line-init g c = record { run = reversing_none _ _ _; count = omega arith; shift = refl }

pub swap_blocks_for_symmetry-requires-clause-apart : goal.swap_blocks_for_symmetry-requires-clause-apart
swap_blocks_for_symmetry-requires-clause-apart g c = lines_apart _ _ _ (omega arith)

pub swap_blocks_for_symmetry-requires-clause-within : goal.swap_blocks_for_symmetry-requires-clause-within
swap_blocks_for_symmetry-requires-clause-within g c =
    omega (arith, c.loop-line.invariant.run.length_stays, lines_within c.args.lines c.args.width c.loop-line.line (omega arith))

pub swap_blocks_for_symmetry-requires-clause-fits : goal.swap_blocks_for_symmetry-requires-clause-fits
swap_blocks_for_symmetry-requires-clause-fits g c =
    omega (arith, lines_within c.args.lines c.args.width c.loop-line.line (omega arith))

pub loop-line-preserved : goal.loop-line-preserved
loop-line-preserved g c =
    record {
      run = reversing_more _ _ _ _ _ _ (omega arith) c.loop-line.invariant.run c.swap_blocks_for_symmetry.ensures.cells;
      count = omega arith;
      shift = omega arith;
    }

pub returns-clause-moved : goal.returns-clause-moved
returns-clause-moved g c = reversing_all _ _ _ _ _ c.loop-line.invariant.run (omega arith)
