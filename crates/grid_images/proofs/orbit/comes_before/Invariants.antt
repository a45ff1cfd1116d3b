use Rattle.std.proofs.Common.{ℕ, ◌<◌, get_or}
use Rattle.grid_base.proofs.Lemmas.{product}
use Rattle.grid_base.specs.declared.words.Symmetry.TheVariants.{Identity}
use Rattle.grid_images.specs.Images.{number, symmetry_at}
use Rattle.grid_images.proofs.NumberLemmas.{undoing}
use Rattle.grid_images.proofs.orbit.comes_before.Given as goal

abbrev pub invariant-loop-member : goal.invariant-loop-member
invariant-loop-member l = (j : ℕ) → j < l.member-index → number (product (undoing (get_or l.fn.fixing j Identity)) (symmetry_at l.fn.i)) < l.fn.i → ⊥
