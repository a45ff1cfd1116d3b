-- The open row, ended or refused.
use Rattle.std.proofs.Common.{◌≡◌, ◌+◌, length, refl, arith}
use Rattle.grid_rows.proofs.RowsLemmas.{ragged_row, row_too_many, row_ended}
use Rattle.grid_rows.proofs.builder.RowsBuilder.end_row.Goals as goal

pub returns-then-cols-len : goal.returns-then-cols-len
returns-then-cols-len g c =
    let len : c.len.result ≡ length c.self.inside.cells.items = omega (arith, c.len.ensures) in
    (ragged_row _ _ _ _ c.self.invariant _ c.self.view_is _ len _ c.unwrap_or-cols.ensures c.if-cols-len.true, refl)

pub returns : goal.returns
returns g c =
    let len : c.len.result ≡ length c.self.inside.cells.items = omega (arith, c.len.ensures) in
    row_ended _ _ _ _ c.self.invariant _ c.self.view_is _ len _ c.unwrap_or-cols.ensures c.if-cols-len.false

pub returns-then-self : goal.returns-then-self
returns-then-self g c =
    let len : c.len.result ≡ length c.self.inside.cells.items = omega (arith, c.len.ensures) in
    let limit : c.self.inside.row_count + 1 ≡ 18446744073709551616 = omega arith in
    (row_too_many _ _ _ _ c.self.invariant _ c.self.view_is _ len _ c.unwrap_or-cols.ensures c.if-cols-len.false limit, refl)
