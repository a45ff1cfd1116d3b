use Rattle.std.proofs.Common.{◌≡◌, ◌+◌, ◌∙◌, sym, subst, arith}
use Rattle.grid.proofs.Common.{IsWithin, CellsUpdated}
use Rattle.grid.proofs.Lemmas.{updated_none, updated_col}
use Rattle.grid.proofs.grid.Grid.update_in_row.Goals as goal

pub loop-col-init : goal.loop-col-init
loop-col-init g c = updated_none _ (IsWithin c.args.row (c.args.row + 1) c.args.from c.args.from) c.args.self.now (λ i j h. omega (arith, h.col_from, h.col_before))

pub update_cell-requires-clause-in_range : goal.update_cell-requires-clause-in_range
update_cell-requires-clause-in_range g c =
    let h = c.loop-col.invariant in
    (omega (arith, h.rows, c.requires.row_in), omega (arith, h.cols, c.requires.cols_in, c.loop-col-test.true))

pub update_cell-requires-clause-calls : goal.update_cell-requires-clause-calls
update_cell-requires-clause-calls g c =
    let h = c.loop-col.invariant in
    λ k p ge lt is. c.requires.calls k p (omega (arith, ge, c.loop-col.auto.col)) (omega (arith, lt, c.loop-col-test.true)) (sym (h.others c.args.row k (λ w. omega (arith, w.col_before, ge))) ∙ is)

pub loop-col-preserved : goal.loop-col-preserved
loop-col-preserved g c = updated_col _ c.args.row c.args.from c.loop-col.col c.args.self.now c.loop-col.self c.update_cell.new.self (omega (arith, c.loop-col.auto.col)) c.loop-col.invariant c.update_cell.ensures

pub returns : goal.returns
returns g c =
    let end : c.loop-col.col ≡ c.args.end = omega (arith, c.loop-col-test.false, c.loop-col.auto.col-end) in
    subst (λ x. CellsUpdated (IsWithin c.args.row (c.args.row + 1) c.args.from x) (λ at p y. goal.F-post g c.args.f.now at p y) c.args.self.now c.loop-col.self) end c.loop-col.invariant
