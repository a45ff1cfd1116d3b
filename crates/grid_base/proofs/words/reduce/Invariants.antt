use Rattle.std.proofs.Common.{◌≡◌, take}
use Rattle.grid_base.proofs.Lemmas.{word_symmetry}
use Rattle.grid_base.proofs.words.reduce.Given as goal

abbrev pub invariant-loop-step : goal.invariant-loop-step
invariant-loop-step l = l.reduced ≡ word_symmetry (take l.step-index l.word)
