-- Each call permutes the cells of its row.
use Rattle.std.proofs.Common.{rules, IsPermutation}
use Rattle.grid_lines.proofs.RewriteLemmas.{rewritten_each}
use Rattle.grid_callers.proofs.lines.sort_cells.Goals as goal

pub returns : goal.returns
returns g c = rewritten_each _ _ IsPermutation (λ p x y q k. search rules) _ _ c.rewrite_rows.ensures.rows
