use Rattle.grid.proofs.convert.GridTryFromRefVecVec.try_from.Goals as goal

pub returns : goal.returns
returns g c = rw c.as_slice.ensures.value at c.join_clones.ensures
