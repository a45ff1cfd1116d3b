use Rattle.std.proofs.Common.{rules, ◌≡◌, arith, sym, ◌∙◌, length, vec_len, zip, take_all}
use Rattle.grid_base.proofs.Common.{positions_of}
use Rattle.grid_base.proofs.Lemmas.{all_passed, length-places, zip_even}
use Rattle.grid_base.proofs.flat.all_cells.map_by_line.Goals as goal

pub returns-clause-cells : goal.returns-clause-cells
returns-clause-cells g c =
    let i = c.loop-line.invariant in
    let all = positions_of c.args.layout in
    let cells = c.args.cells.now in
    let last : c.loop-line.line ≡ c.lines-lines.result.0 = omega (arith, c.loop-line-test.false, c.loop-line.auto.line-end) in
    let even : length all ≡ length cells = length-places _ _ _ c.args.layout.size ∙ sym c.requires.table.0 in
    let passed : length all ≡ vec_len c.loop-line.made = all_passed _ _ _ _ _ _ c.args.layout.size c.lines-lines.ensures last i.passed in
    let whole = take_all (vec_len c.loop-line.made) (zip all cells) (omega (arith, zip_even all cells even, even, passed)) in
    record { places = rw whole at i.answers }

pub returns-clause-len : goal.returns-clause-len
returns-clause-len g c =
    let i = c.loop-line.invariant in
    let last : c.loop-line.line ≡ c.lines-lines.result.0 = omega (arith, c.loop-line-test.false, c.loop-line.auto.line-end) in
    let all = all_passed _ _ _ _ _ _ c.args.layout.size c.lines-lines.ensures last i.passed in
    let count = length-places c.args.layout.order c.args.layout.rows c.args.layout.cols c.args.layout.size in
    search rules
