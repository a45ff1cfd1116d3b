use Rattle.std.proofs.Common.{arith, rules, refl, ◌≡◌, ◌*◌, List, take, drop}
use Rattle.grid_base.proofs.Common.{common_steps, TakenOut}
use Rattle.grid_base.proofs.Lemmas.{taken_in_place}
use Rattle.grid_base.proofs.flat.Flat.take_from_lines.Goals as goal

pub returns-in-Nothing-clause-taken : goal.returns-in-Nothing-clause-taken
returns-in-Nothing-clause-taken g c =
    let groups = c.args.groups in
    let xs = c.args.self.now in
    let stand = c.in-Nothing.ensures.nothing refl in
    let h : (short taken : List g.row.T.Denot) → short ≡ take (groups.lines * groups.width) xs → taken ≡ drop (groups.lines * groups.width) xs → TakenOut groups.lines groups.width groups.at groups.count short taken xs =
    λ short taken front back. taken_in_place _ _ _ _ xs short taken groups.within stand c.requires front back in
    search (rules, h)

pub replace_with-requires : goal.replace_with-requires
replace_with-requires g c = grind (arith, common_steps)

pub returns-clause-taken : goal.returns-clause-taken
returns-clause-taken g c = grind (arith, common_steps)
