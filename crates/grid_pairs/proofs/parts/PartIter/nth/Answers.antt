use Rattle.grid_pairs.proofs.PartLemmas.{nth_part_found}
use Rattle.grid_pairs.proofs.parts.PartIter.nth.Goals as goal

pub returns : goal.returns
returns g c =
    let found = nth_part_found _ c.args.n c.args.self.now _ _ _ c.skip.ensures c.next.ensures.steps in
    record { item = found.0; rest = found.1 }
