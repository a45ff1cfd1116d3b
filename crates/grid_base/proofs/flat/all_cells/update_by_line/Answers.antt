use Rattle.std.proofs.Common.{◌≡◌, ◌*◌, arith, refl, sym, ◌∙◌, length}
use Rattle.grid_base.proofs.Common.{positions_of, lines_of}
use Rattle.grid_base.proofs.Lemmas.{all_passed, length-places, callable_from, updated_join, updated_all}
use Rattle.grid_base.proofs.flat.all_cells.update_by_line.Goals as goal

pub update_line-requires-clause-calls : goal.update_line-requires-clause-calls
update_line-requires-clause-calls g c =
    callable_from _ c.args.f.now (positions_of c.args.layout) c.args.cells.now c.loop-line.cells _ c.requires.1 c.loop-line.invariant.behind

pub loop-line-preserved : goal.loop-line-preserved
loop-line-preserved g c =
    let w = (lines_of c.args.layout).1 in
    updated_join _ (positions_of c.args.layout) c.args.cells.now c.loop-line.cells c.update_line.new.cells 0 (c.loop-line.line * w) _ c.loop-line.invariant c.update_line.ensures (omega arith) (omega arith)

pub returns : goal.returns
returns g c =
    let all = positions_of c.args.layout in
    let cells = c.args.cells.now in
    let i = c.loop-line.line * (lines_of c.args.layout).1 in
    let last : c.loop-line.line ≡ c.lines-lines.result.0 = omega (arith, c.loop-line-test.false, c.loop-line.auto.line-end) in
    let even : length all ≡ length cells = length-places _ _ _ c.args.layout.size ∙ sym c.requires.0 in
    let passed : length all ≡ i = all_passed _ _ _ _ i _ c.args.layout.size c.lines-lines.ensures last refl in
    record { places = updated_all _ all cells c.loop-line.cells i even (omega arith) c.loop-line.invariant }
