use Rattle.std.proofs.Common.{◌≡◌, take, flat_map, fold}
use Rattle.grid_base.specs.Table.{row}
use Rattle.grid.proofs.grid.Grid.hash_row.Given as goal

abbrev pub invariant-loop-col : goal.invariant-loop-col
invariant-loop-col g l = l.state ≡ fold g.H.Hasher.write l.fn.state (flat_map g.T.Hash.hash_input (take l.col (row l.self.rows l.r)))
