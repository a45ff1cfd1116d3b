-- Each call returns what is due.
use Rattle.grid_play.proofs.laws.plays_alike.Goals as goal

pub returns-clause-deferred : goal.returns-clause-deferred
returns-clause-deferred g c = c.play-deferred.ensures
