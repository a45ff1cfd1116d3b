use Rattle.std.proofs.Common.{◌≡◌, take, flat_map, fold}
use Rattle.grid.proofs.traits.GridHash.hash.Given as goal

abbrev pub invariant-loop-row : goal.invariant-loop-row
invariant-loop-row g l = l.state ≡ fold g.H.Hasher.write l.initial.state (flat_map (λ line. flat_map g.T.Hash.hash_input line) (take l.row l.self.rows))
