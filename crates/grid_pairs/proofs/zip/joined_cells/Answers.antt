use Rattle.std.proofs.Common.{sym, ap, ◌∙◌}
use Rattle.grid_base.proofs.Common.{row_count, col_count}
use Rattle.grid_base.proofs.TableLemmas.{rows-transposed}
use Rattle.grid_pairs.proofs.JoinLemmas.{callable_across, transposed_cols, placed_made}
use Rattle.grid_pairs.proofs.zip.joined_cells.Goals as goal

pub joined_rows-requires-in-ColumnMajor-clause-rows : goal.joined_rows-requires-in-ColumnMajor-clause-rows
joined_rows-requires-in-ColumnMajor-clause-rows g c =
    ap row_count c.transposed-in-ColumnMajor.ensures.rows ∙ (rows-transposed c.args.other.now.rows ∙ (c.requires.cols ∙ (sym (rows-transposed c.args.board.now.rows) ∙ sym (ap row_count c.transposed.ensures.rows))))

pub joined_rows-requires-in-ColumnMajor-clause-cols : goal.joined_rows-requires-in-ColumnMajor-clause-cols
joined_rows-requires-in-ColumnMajor-clause-cols g c =
    ap col_count c.transposed-in-ColumnMajor.ensures.rows ∙ (transposed_cols c.args.other.now.rows c.args.other.now.table ∙ (c.requires.rows ∙ (sym (transposed_cols c.args.board.now.rows c.args.board.now.table) ∙ sym (ap col_count c.transposed.ensures.rows))))

pub joined_rows-requires-in-ColumnMajor-clause-calls : goal.joined_rows-requires-in-ColumnMajor-clause-calls
joined_rows-requires-in-ColumnMajor-clause-calls g c =
    rw (c.transposed.ensures.rows, c.transposed-in-ColumnMajor.ensures.rows) (callable_across (λ h p q. goal.F-pre g h p q) c.args.f.now _ _ c.args.board.now.table c.args.other.now.table c.requires.rows c.requires.cols c.requires.calls)

pub returns-in-ColumnMajor : goal.returns-in-ColumnMajor
returns-in-ColumnMajor g c = placed_made _ _ _ _ _ _ _ c.joined_rows-in-ColumnMajor.result (λ cells. cells.items) c.in-ColumnMajor.is c.transposed.ensures.rows c.transposed-in-ColumnMajor.ensures.rows c.args.board.now.table c.args.other.now.table c.requires.rows c.requires.cols c.joined_rows-in-ColumnMajor.ensures
