use Rattle.std.proofs.Common.{None}
use Rattle.grid_paths.proofs.Common.{cell_in_range}
use Rattle.grid_paths.proofs.bfs.Bfs.mark.Goals as goal

pub index_mut-requires : goal.index_mut-requires
index_mut-requires g c =
    let u = c.args.self.now.numbers in
    cell_in_range u.rows u.table c.args.at.0 c.args.at.1 None c.requires
