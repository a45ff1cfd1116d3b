use Rattle.std.proofs.Common.{◌≡◌, ◌+◌, ◌<◌, ◌≤◌, true, Some, sym, ◌∙◌, subst, arith, ⊎_elim}
use Rattle.grid_paths.proofs.Common.{cases_lt, cell, col_count, IsOpen, alike}
use Rattle.grid_paths.proofs.Lemmas.{open_alike, outward_at, one_outward}
use Rattle.grid_paths.proofs.region.other_in_row.Goals as goal

pub loop-i-preserved : goal.loop-i-preserved
loop-i-preserved g c =
    λ col k lt down up.
    let eq = g.T.PartialEq.eq in
    let t = c.args.grid.now.rows in
    let r = c.args.row in
    let i = c.loop-i.i in
    let here : cell t r c.outward.result ≡ Some c.index.result.now = c.index.ensures in
    let equal : eq c.index.result.now c.args.first ≡ true = sym c.eq.ensures ∙ c.if-not-eq.false in
    ⊎_elim (λ less. c.loop-i.invariant col k less down up)
    (λ ge.
    let k_is : k ≡ i = omega arith in
    let col_is : c.outward.result ≡ col = one_outward c.args.from k col c.outward.result down up (subst (λ n. n ≤ c.args.from → c.outward.result + n ≡ c.args.from) (sym k_is) c.outward.ensures.down) (subst (λ n. c.args.from < n → c.outward.result ≡ n) (sym k_is) c.outward.ensures.up) in
    subst (λ n. IsOpen (alike eq c.args.first t) (r, n)) col_is (open_alike eq c.args.first t c.args.grid.now.table (r, c.outward.result) c.index.result.now here equal))
    (cases_lt k i)

pub returns : goal.returns
returns g c =
    λ col lc.
    let from_in : c.args.from < col_count c.args.grid.now.rows = c.requires.1 in
    let v = outward_at c.args.from col (col_count c.args.grid.now.rows) from_in lc in
    let before = v.1 in
    c.loop-i.invariant col v.0 (omega arith) v.2 v.3
