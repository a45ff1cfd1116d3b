use Rattle.std.proofs.Common.{rules}
use Rattle.grid_paths.proofs.Lemmas.{AreAnswers-mapped}
use Rattle.grid_paths.proofs.answers.answers_of.Goals as goal

pub returns-clause-answers : goal.returns-clause-answers
returns-clause-answers g c =
    AreAnswers-mapped _ _ c.args.grid.now _ _ c.map_indexed.result c.map_indexed.ensures.same c.map_indexed.ensures.cells (λ i j p y h. search rules)
