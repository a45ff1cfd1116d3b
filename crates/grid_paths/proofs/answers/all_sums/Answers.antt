use Rattle.std.proofs.Common.{rules}
use Rattle.grid_paths.proofs.Lemmas.{numbers-made}
use Rattle.grid_paths.proofs.answers.all_sums.Goals as goal

pub returns-clause-cells : goal.returns-clause-cells
returns-clause-cells g c =
    numbers-made g.N.Width.reads c.args.sums.now _ _ c.map_indexed.result c.map_indexed.ensures.cells (λ i j p y h. search rules)
