use Rattle.std.proofs.Common.{rules, ◌∙◌, sym}
use Rattle.grid.proofs.Common.{normal-acts}
use Rattle.grid.proofs.grid.Grid.apply.Goals as goal

pub returns-clause-words : goal.returns-clause-words
returns-clause-words g c = λ w n. c.apply_counted.ensures.rows ∙ sym (normal-acts w _ _ c.args.self.now.table n)

pub returns-clause-rows : goal.returns-clause-rows
returns-clause-rows g c = search rules

pub returns-clause-size : goal.returns-clause-size
returns-clause-size g c = search rules

pub returns-clause-order : goal.returns-clause-order
returns-clause-order g c = search rules
