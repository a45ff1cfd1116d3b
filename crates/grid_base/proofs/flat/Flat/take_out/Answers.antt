use Rattle.std.proofs.Common.{arith, rules, inr, ◌≡◌, ◌*◌, List, take, drop}
use Rattle.grid_base.proofs.Common.{TakenOut}
use Rattle.grid_base.proofs.Lemmas.{taken_in_place}
use Rattle.grid_base.proofs.flat.Flat.take_out.Goals as goal

pub returns-then-groups-clause-taken : goal.returns-then-groups-clause-taken
returns-then-groups-clause-taken g c =
    let groups = c.args.groups in
    let xs = c.args.self.now in
    let h : (short taken : List g.row.T.Denot) → short ≡ take (groups.lines * groups.width) xs → taken ≡ drop (groups.lines * groups.width) xs → TakenOut groups.lines groups.width groups.at groups.count short taken xs =
    λ short taken front back. taken_in_place _ _ _ _ xs short taken groups.within (inr (omega (arith), omega (arith))) c.requires front back in
    search (rules, h)
