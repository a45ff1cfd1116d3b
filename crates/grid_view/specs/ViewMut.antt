-- What a contract sees of a part of a board for writing.
use Rattle.std.specs.Prelude.{◌≡◌, ℕ, List}
use Rattle.std.specs.Borrow.{GName}
use Rattle.grid_base.specs.Order.{table_of}
use Rattle.grid_base.specs.declared.layout.Layout.{Layout}
use Rattle.grid_view.specs.View.{sub_table}
use Rattle.grid_view.specs.declared.view_mut.GridViewMut.{GridViewMut}

module _ {T : Type 0} where
  -- the ghost name of the reference to the cells of the whole board
  abbrev pub lender : GridViewMut T → GName
  lender v = v.cells.ghost_name

  -- these cells, in storage order
  abbrev pub board_cells : GridViewMut T → List T
  board_cells v = v.cells.now

  -- the size and the order of the whole board, and its rows
  abbrev pub board_layout : GridViewMut T → Layout
  board_layout v = v.board

  abbrev pub board_rows : GridViewMut T → List (List T)
  board_rows v = table_of v.board.order v.board.rows v.board.cols v.cells.now

  -- the position of the part in the board, its size, and its rows
  abbrev pub part_at : GridViewMut T → ℕ × ℕ
  part_at v = v.at

  abbrev pub part_size : GridViewMut T → ℕ × ℕ
  part_size v = v.size

  abbrev pub part_rows : GridViewMut T → List (List T)
  part_rows v = sub_table (board_rows v) v.at v.size

  -- the same part of a board of the same layout; the cells may be others
  pub record IsSamePart (old new : GridViewMut T) : Type 0 where
    pub layout : board_layout new ≡ board_layout old
    pub at : part_at new ≡ part_at old
    pub size : part_size new ≡ part_size old
