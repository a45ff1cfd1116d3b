use Rattle.std.proofs.Common.{◌⊎◌, ◌<◌, ◌≤◌, ◌*◌, ap, arith, inl, inr, ⊎_elim}
use Rattle.grid.proofs.Common.{cases_lt, row_count, col_count}
use Rattle.grid.proofs.Lemmas.{product_some, resized}
use Rattle.grid.proofs.grid.Grid.resize_anew.Goals as goal

pub exchange_part-requires-clause-to_rows : goal.exchange_part-requires-clause-to_rows
exchange_part-requires-clause-to_rows g c =
    let some : 0 < c.args.rows * c.args.cols = product_some _ _ c.requires.some_rows c.requires.some_cols in
    omega (arith, c.min.ensures, c.in_ok-grid.ensures.made.size.rows (λ z. omega (arith, some, z)))

pub exchange_part-requires-clause-to_cols : goal.exchange_part-requires-clause-to_cols
exchange_part-requires-clause-to_cols g c =
    let some : 0 < c.args.rows * c.args.cols = product_some _ _ c.requires.some_rows c.requires.some_cols in
    omega (arith, c.min-2.ensures, c.in_ok-grid.ensures.made.size.cols (λ z. omega (arith, some, z)))

pub returns-clause-resized : goal.returns-clause-resized
returns-clause-resized g c =
    let some : 0 < c.args.rows * c.args.cols = product_some _ _ c.requires.some_rows c.requires.some_cols in
    let rows : (c.args.rows ≤ c.min.result) ⊎ (row_count c.args.self.now.rows ≤ c.min.result) =
    ⊎_elim (λ lt. inl (omega (arith, c.min.ensures, c.size-old_rows.ensures.rows, lt))) (λ ge. inr (omega (arith, c.min.ensures, c.size-old_rows.ensures.rows, ge))) (cases_lt c.args.rows (row_count c.args.self.now.rows)) in
    let cols : (c.args.cols ≤ c.min-2.result) ⊎ (col_count c.args.self.now.rows ≤ c.min-2.result) =
    ⊎_elim (λ lt. inl (omega (arith, c.min-2.ensures, c.size-old_rows.ensures.cols, lt))) (λ ge. inr (omega (arith, c.min-2.ensures, c.size-old_rows.ensures.cols, ge))) (cases_lt c.args.cols (col_count c.args.self.now.rows)) in
    rw (ap (λ x. x.rows) c.drop.view_is)
    (resized _ c.args.rows c.args.cols c.min.result c.min-2.result c.in_ok-grid.grid c.args.self.now c.exchange_part.new.to c.exchange_part.new.from some c.in_ok-grid.ensures.made.size c.in_ok-grid.ensures.defaults.each c.exchange_part.ensures
    (omega (arith, c.min.ensures)) (omega (arith, c.min.ensures, c.size-old_rows.ensures.rows)) rows (omega (arith, c.min-2.ensures)) (omega (arith, c.min-2.ensures, c.size-old_rows.ensures.cols)) cols)
