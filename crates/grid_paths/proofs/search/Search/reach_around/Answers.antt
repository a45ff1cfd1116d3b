use Rattle.std.proofs.Common.{◌+◌, Some, subst, ◌∙◌, ap}
use Rattle.grid_paths.proofs.Common.{on_ok_weaker, cell_in_range, IsStep, Reaches}
use Rattle.grid_paths.proofs.Lemmas.{one_mark, Reaches-around}
use Rattle.grid_paths.proofs.search.Search.reach_around.Goals as goal

pub index-requires : goal.index-requires
index-requires g c =
    let m = c.requires.marked in
    let u = c.args.self.now.steps.numbers in
    cell_in_range u.rows u.table c.args.at.0 c.args.at.1 (Some m.0) m.1

pub returns-in-Some : goal.returns-in-Some
returns-in-Some g c =
    let at = c.args.at in
    let s = c.args.self.now in
    let new = c.visit_around.new.search in
    let count = c.in-Some.count in
    let v = c.visit_around.ensures in
    on_ok_weaker c.visit_around.result
    (λ r m mark.
    let same = one_mark s.steps.numbers.rows at count m (c.index.ensures ∙ ap Some c.in-Some.is) mark in
    subst (λ k. Reaches (IsStep c.args.connectivity at) (k + 1) s new) same r)
    (Reaches-around (count + 1) c.args.connectivity at v.0 v.1 c.visit_around.result s new v.2)
