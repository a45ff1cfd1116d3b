-- Each cell is that of the square in which it is.
use Rattle.std.proofs.Common.{◌≡◌, ◌*◌, ◌/◌, rules}
use Rattle.grid_base.specs.Table.{row_count, col_count, cell, IsSize}
use Rattle.grid_base.proofs.TableLemmas.{IsSize-table}
use Rattle.grid_pnm.proofs.EnlargeLemmas.{too_high, too_wide, made_of}
use Rattle.grid_pnm.proofs.enlarge.enlarged_view.Goals as goal
use Rattle.grid_pnm.proofs.enlarge.enlarged_view.Goals.{in_default-via-in-Some+in_default, in_default-via-in_default}

pub returns-in_default-clause-fails : goal.returns-in_default-clause-fails
returns-in_default-clause-fails g c =
    let size : IsSize (row_count c.args.board.now.rows) (col_count c.args.board.now.rows) = IsSize-table c.args.board.now.rows c.args.board.now.table in
    elim c.in_default.branch [
      | in_default-via-in-Some+in_default w ↦ too_wide (row_count c.args.board.now.rows) (col_count c.args.board.now.rows) c.args.scale size (search rules)
      | in_default-via-in_default w ↦ too_high (row_count c.args.board.now.rows) (col_count c.args.board.now.rows) c.args.scale size (search rules)
    ]

pub returns-clause-rows : goal.returns-clause-rows
returns-clause-rows g c =
    let size : IsSize (row_count c.args.board.now.rows) (col_count c.args.board.now.rows) = IsSize-table c.args.board.now.rows c.args.board.now.table in
    let high : c.in-Some-Some.rows ≡ row_count c.args.board.now.rows * c.args.scale = search rules in
    let wide : c.in-Some-Some.cols ≡ col_count c.args.board.now.rows * c.args.scale = search rules in
    made_of (row_count c.args.board.now.rows) (col_count c.args.board.now.rows) c.args.scale size c.in-Some-Some.rows c.in-Some-Some.cols high wide _ _ (λ i j. cell c.args.board.now.rows (i / c.args.scale) (j / c.args.scale)) c.from_fn.result c.from_fn.ensures.made c.from_fn.ensures.cells (λ i j y li lj p. search rules)
