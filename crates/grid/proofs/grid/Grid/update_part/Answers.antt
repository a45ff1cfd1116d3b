use Rattle.std.proofs.Common.{◌≡◌, ◌+◌, ◌∙◌, sym, subst, arith}
use Rattle.grid.proofs.Common.{IsWithin, CellsUpdated}
use Rattle.grid.proofs.Lemmas.{updated_none, updated_row, updated_part, in_part_within}
use Rattle.grid.proofs.grid.Grid.update_part.Goals as goal

pub loop-row-init : goal.loop-row-init
loop-row-init g c = updated_none _ (IsWithin c.args.at.0 c.args.at.0 c.args.at.1 (c.args.at.1 + c.args.size.1)) c.args.self.now (λ i j h. omega (arith, h.row_from, h.row_before))

pub update_in_row-requires-clause-row_in : goal.update_in_row-requires-clause-row_in
update_in_row-requires-clause-row_in g c = omega (arith, c.loop-row.invariant.rows, c.requires.rows_in, c.loop-row-test.true)

pub update_in_row-requires-clause-cols_in : goal.update_in_row-requires-clause-cols_in
update_in_row-requires-clause-cols_in g c = omega (arith, c.loop-row.invariant.cols, c.requires.cols_in)

pub update_in_row-requires-clause-calls : goal.update_in_row-requires-clause-calls
update_in_row-requires-clause-calls g c =
    let h = c.loop-row.invariant in
    let row = c.loop-row.row in
    λ k p ge lt is.
    c.requires.calls row k p
    ((in_part_within c.args.at c.args.size row k).1 (record { row_from = omega (arith, c.loop-row.auto.row); row_before = omega (arith, c.loop-row-test.true); col_from = ge; col_before = lt }))
    (omega (arith, c.requires.rows_in, c.loop-row-test.true), omega (arith, c.requires.cols_in, lt))
    (sym (h.others row k (λ w. omega (arith, w.row_before))) ∙ is)

pub loop-row-preserved : goal.loop-row-preserved
loop-row-preserved g c = updated_row _ c.args.at.0 c.loop-row.row c.args.at.1 (c.args.at.1 + c.args.size.1) c.args.self.now c.loop-row.self c.update_in_row.new.self (omega (arith, c.loop-row.auto.row)) c.loop-row.invariant c.update_in_row.ensures

pub returns-clause-answers : goal.returns-clause-answers
returns-clause-answers g c =
    let end : c.loop-row.row ≡ c.args.at.0 + c.args.size.0 = omega (arith, c.loop-row-test.false, c.loop-row.auto.row, c.loop-row.auto.row-end) in
    subst (λ x. CellsUpdated (IsWithin c.args.at.0 x c.args.at.1 (c.args.at.1 + c.args.size.1)) (λ at p y. goal.F-post g c.args.f at p y) c.args.self.now c.loop-row.self) end c.loop-row.invariant

pub returns-clause-cells : goal.returns-clause-cells
returns-clause-cells g c = updated_part (λ f at p y. goal.F-post g f at p y) c.args.f c.args.at c.args.size c.args.self.now c.loop-row.self (returns-clause-answers g c)
