use Rattle.std.proofs.Common.{◌≡◌, ◌+◌, ◌-◌, ◌*◌, ap, arith, ne_eqb, mul-le-mul_right}
use Rattle.grid.proofs.edits.row_groups.Goals.{in-RowMajor, in-ColumnMajor}
use Rattle.grid.proofs.edits.row_groups.Goals as goal

pub invariant_of-result-clause-within : goal.invariant_of-result-clause-within
invariant_of-result-clause-within c =
    elim c.match-order.branch [
      | in-RowMajor w ↦ rw w.result-is (mul-le-mul_right c.args.cols c.requires.point)
      | in-ColumnMajor w ↦ rw w.result-is c.requires.point
    ]

pub returns-clause-shift : goal.returns-clause-shift
returns-clause-shift c some =
    let split : c.args.rows ≡ c.args.rows - c.args.at + c.args.at = omega arith in
    let apart : c.args.rows * c.args.cols ≡ (c.args.rows - c.args.at + c.args.at) * c.args.cols = ap (λ x. x * c.args.cols) split in
    elim c.match-order.branch [
      | in-RowMajor w ↦ rw (w.result-is, w.in-RowMajor.is, ne_eqb c.args.count 0 (λ e. omega arith)) (omega (arith, apart))
      | in-ColumnMajor w ↦ rw (w.result-is, w.in-ColumnMajor.is, ne_eqb c.args.count 0 (λ e. omega arith)) (omega arith)
    ]
