use Rattle.std.proofs.Common.{◌≡◌, ◌-◌, sym, ◌∙◌, ap, length, arith}
use Rattle.grid_base.proofs.Common.{place}
use Rattle.grid_base.proofs.Lemmas.{within-places, length-left}
use Rattle.grid_base.proofs.flat.positions.Positions.len.Goals as goal
use Rattle.grid_base.proofs.flat.positions.Positions.len.Goals.{in-RowMajor, in-ColumnMajor}

pub overflow_sub-result : goal.overflow_sub-result
overflow_sub-result c =
    let s = c.self.inside in
    let passed : c.match-layout.passed ≡ place s.layout.order s.layout.rows s.layout.cols s.row s.col = elim c.match-layout.branch [ in-RowMajor w ↦ rw w.in-RowMajor.is w.passed-is | in-ColumnMajor w ↦ rw w.in-ColumnMajor.is w.passed-is ] in
    omega (arith, c.len.ensures, within-places s.layout.order s.layout.rows s.layout.cols s.row s.col c.self.invariant)

pub returns : goal.returns
returns c =
    let s = c.self.inside in
    let passed : c.match-layout.passed ≡ place s.layout.order s.layout.rows s.layout.cols s.row s.col = elim c.match-layout.branch [ in-RowMajor w ↦ rw w.in-RowMajor.is w.passed-is | in-ColumnMajor w ↦ rw w.in-ColumnMajor.is w.passed-is ] in
    ap (λ k. c.len.result - k) passed ∙ (ap (λ n. n - place s.layout.order s.layout.rows s.layout.cols s.row s.col) c.len.ensures ∙ (sym (length-left s.layout.order s.layout.rows s.layout.cols s.row s.col c.self.invariant) ∙ ap length c.self.view_is))
