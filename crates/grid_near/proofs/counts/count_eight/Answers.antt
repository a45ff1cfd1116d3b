use Rattle.grid_near.proofs.counts.count_eight.Goals as goal

pub returns-clause-count : goal.returns-clause-count
returns-clause-count c = cc
