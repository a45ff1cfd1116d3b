use Rattle.std.proofs.Common.{◌≡◌, ap, ◌∙◌, rules}
use Rattle.grid_paths.proofs.Lemmas.{numbers-none_made}
use Rattle.grid_paths.proofs.answers.no_sums.Goals as goal

pub returns-clause-none : goal.returns-clause-none
returns-clause-none g c =
    let w = g.N.Width.reads in
    numbers-none_made w c.args.grid.now _ _ c.map_indexed.result c.map_indexed.ensures.same c.map_indexed.ensures.cells
    (λ i j p y h. let is : y ≡ c.of_none-none.result = search rules in ap w.number is ∙ c.of_none-none.ensures)
