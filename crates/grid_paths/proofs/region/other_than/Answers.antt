use Rattle.std.proofs.Common.{◌≡◌, ◌+◌, ◌<◌, ◌≤◌, sym, subst, arith, ⊎_elim}
use Rattle.grid_paths.proofs.Common.{cases_lt, row_count, IsOpen, alike}
use Rattle.grid_paths.proofs.Lemmas.{outward_at, one_outward}
use Rattle.grid_paths.proofs.region.other_than.Goals as goal

pub loop-i-preserved : goal.loop-i-preserved
loop-i-preserved g c =
    λ a k lt down up here.
    let from = c.args.at.0 in
    let i = c.loop-i.i in
    ⊎_elim (λ less. c.loop-i.invariant a k less down up here)
    (λ ge.
    let k_is : k ≡ i = omega arith in
    let row_is : c.outward.result ≡ a.0 = one_outward from k a.0 c.outward.result down up (subst (λ n. n ≤ from → c.outward.result + n ≡ from) (sym k_is) c.outward.ensures.down) (subst (λ n. from < n → c.outward.result ≡ n) (sym k_is) c.outward.ensures.up) in
    subst (λ n. IsOpen (alike g.T.PartialEq.eq c.args.first c.args.grid.now.rows) (n, a.1)) row_is (c.in_default.ensures a.1 here.1))
    (cases_lt k i)

pub returns : goal.returns
returns g c =
    λ a here.
    let rows = row_count c.args.grid.now.rows in
    let v = outward_at c.args.at.0 a.0 rows c.requires.0 here.0 in
    let before = v.1 in
    c.loop-i.invariant a v.0 (omega arith) v.2 v.3 here
