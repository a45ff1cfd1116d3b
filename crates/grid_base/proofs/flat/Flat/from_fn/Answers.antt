use Rattle.std.proofs.Common.{rules, ◌≡◌, arith, vec_len, take_all}
use Rattle.grid_base.proofs.Common.{positions_of}
use Rattle.grid_base.proofs.Lemmas.{all_passed, length-places}
use Rattle.grid_base.proofs.flat.Flat.from_fn.Goals as goal

pub returns-clause-cells : goal.returns-clause-cells
returns-clause-cells g c =
    let i = c.loop-line.invariant in
    let all = positions_of c.args.layout in
    let last : c.loop-line.line ≡ c.lines-lines.result.0 = omega (arith, c.loop-line-test.false, c.loop-line.auto.line-end) in
    let whole = take_all (vec_len c.loop-line.cells) all (omega (arith, all_passed _ _ _ _ _ _ c.args.layout.size c.lines-lines.ensures last i.passed)) in
    record { places = rw whole at i.answers }

pub returns-clause-len : goal.returns-clause-len
returns-clause-len g c =
    let i = c.loop-line.invariant in
    let last : c.loop-line.line ≡ c.lines-lines.result.0 = omega (arith, c.loop-line-test.false, c.loop-line.auto.line-end) in
    let all = all_passed _ _ _ _ _ _ c.args.layout.size c.lines-lines.ensures last i.passed in
    let count = length-places c.args.layout.order c.args.layout.rows c.args.layout.cols c.args.layout.size in
    search rules
