use Rattle.std.proofs.Common.{◌<◌, length, sym, ap, ◌∙◌, arith}
use Rattle.grid.specs.Prelude.{row_count, col_count}
use Rattle.grid_changes.proofs.ChangedCellLemmas.{left_change, left_row, left_none}
use Rattle.grid_changes.proofs.differences.ChangeIterIterator.next.Goals as goal

pub returns-then-col-cols-clause-steps : goal.returns-then-col-cols-clause-steps
returns-then-col-cols-clause-steps g c =
    let s = c.loop-self.self-inside in
    let k = c.next_change-col.result in
    let here : s.row < row_count s.new.rows = omega (arith, c.loop-self-test.true, c.rows.ensures) in
    let before : k < col_count s.new.rows = omega (arith, c.if-col-cols.true, c.cols.ensures) in
    sym c.self.view_is
    ∙ (c.loop-self.invariant.rest
    ∙ left_change g.T.PartialEq.eq s.old.rows s.new.rows s.new.table s.row s.col k here c.next_change-col.ensures c.get_unchecked.result.now before c.get_unchecked.ensures)

pub returns-then-col-cols-clause-goes : goal.returns-then-col-cols-clause-goes
returns-then-col-cols-clause-goes g c =
    let e = ap length (returns-then-col-cols-clause-steps g c) in
    record { on = λ _. (tt, tt, omega (arith, e)); keeps = tt; rests = λ _. tt }

pub loop-self-preserved : goal.loop-self-preserved
loop-self-preserved g c =
    let s = c.loop-self.self-inside in
    let k = c.next_change-col.result in
    let here : s.row < row_count s.new.rows = omega (arith, c.loop-self-test.true, c.rows.ensures) in
    record {
      old = c.loop-self.invariant.old;
      new = c.loop-self.invariant.new;
      within = omega arith;
      rest = c.loop-self.invariant.rest
          ∙ left_row g.T.PartialEq.eq s.old.rows s.new.rows s.new.table s.row s.col k here c.next_change-col.ensures (omega (arith, c.if-col-cols.false, c.cols.ensures));
    }

pub returns-clause-steps : goal.returns-clause-steps
returns-clause-steps g c =
    let s = c.loop-self.self-inside in
    let none = left_none g.T.PartialEq.eq s.old.rows s.new.rows s.new.table s.row s.col (omega (arith, c.loop-self-test.false, c.rows.ensures)) in
    (sym c.self.view_is ∙ (c.loop-self.invariant.rest ∙ none), none)
