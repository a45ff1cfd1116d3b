-- Scripts whose output is computed.
use Rattle.std.proofs.Common.{◌≡◌, refl, [], ◌∷◌, pos, negsuc, Some, None, Ok, Err, codes}
use Rattle.grid_base.proofs.Common.{is_utf8, encode, digits, cells_by, tabulate, act}
use Rattle.grid.specs.Prelude.{insert_at, insert_all, lines, step_rows, step_reply}
use Rattle.std.specs.Str.{chars}
use Rattle.grid_commands.specs.declared.command.Axis.TheVariants.{Row, Col}
use Rattle.grid_play.specs.declared.fault.ScriptFault.TheVariants.{BadGrid, BadCommand}
use Rattle.text_lines.specs.Lines.{lines_of}
use Rattle.text_lines.specs.Numbers.{number_up_to, index_of, cell_of}
use Rattle.grid_play.specs.Commands.{line_forms, cell_forms, index_forms, count_forms, bare_forms, two_indices, index_and_line, index_and_lines, command_of}
use Rattle.grid_play.specs.Script.{grid_of, line_commands, script_of}
use Rattle.grid_play.specs.Output.{output_of, script_output}

lines-returns : lines_of (codes "a\r\n\nb") ≡ codes "a" ∷ [] ∷ codes "b" ∷ []
unfolding lines_of
lines-returns = refl

lines-end : lines_of (codes "a\n\n") ≡ codes "a" ∷ [] ∷ []
unfolding lines_of
lines-end = refl

index-zeros : index_of (codes "007") ≡ Some 7
unfolding index_of number_up_to
index-zeros = refl

index-plus : index_of (codes "+7") ≡ None
unfolding index_of number_up_to
index-plus = refl

index-large : index_of (codes "18446744073709551616") ≡ None
unfolding index_of number_up_to
index-large = refl

cell-least : cell_of (codes "-9223372036854775808") ≡ Some (negsuc 9223372036854775807)
unfolding cell_of number_up_to
cell-least = refl

cell-large : cell_of (codes "9223372036854775808") ≡ None
unfolding cell_of number_up_to
cell-large = refl

insert-line : command_of (codes "insert_row") (codes "1" ∷ codes "7" ∷ codes "-8" ∷ []) ≡ Some (lines Row (insert_at 1 (pos 7 ∷ negsuc 7 ∷ [])))
unfolding command_of line_forms cell_forms index_forms count_forms bare_forms index_and_line index_of cell_of number_up_to
insert-line = refl

insert-lines : command_of (codes "insert_cols") (codes "0" ∷ codes "2" ∷ codes "5" ∷ codes "6" ∷ codes "7" ∷ codes "8" ∷ []) ≡ Some (lines Col (insert_all 0 ((pos 5 ∷ pos 6 ∷ []) ∷ (pos 7 ∷ pos 8 ∷ []) ∷ [])))
unfolding command_of line_forms cell_forms index_forms count_forms bare_forms index_and_lines index_of cell_of number_up_to
insert-lines = refl

get-short : command_of (codes "get") (codes "0" ∷ []) ≡ None
unfolding command_of line_forms cell_forms index_forms count_forms bare_forms two_indices index_of cell_of number_up_to
get-short = refl

first-script : script_output (codes "RowMajor 2 1 2 3 4\nflip_rows\nget 0 0\n") ≡ Ok (codes "ok\ncell 3\n[[3, 4][1, 2]]\n")
unfolding script_output output_of script_of lines_of grid_of line_commands command_of line_forms cell_forms index_forms count_forms bare_forms two_indices index_of cell_of number_up_to is_utf8 chars encode act cells_by tabulate digits step_rows step_reply
first-script = refl

bad-third : script_output (codes "ColumnMajor 1 1\nsize\n\nsize 1\n") ≡ Err (BadCommand 4)
unfolding script_output output_of script_of lines_of grid_of line_commands command_of line_forms cell_forms index_forms count_forms bare_forms two_indices index_of cell_of number_up_to is_utf8 chars encode act cells_by tabulate digits step_rows step_reply
bad-third = refl

bad-grid : script_output (codes "RowMajor 2 1 2 3\nsize") ≡ Err BadGrid
unfolding script_output output_of script_of lines_of grid_of line_commands command_of line_forms cell_forms index_forms count_forms bare_forms two_indices index_of cell_of number_up_to is_utf8 chars encode act cells_by tabulate digits step_rows step_reply
bad-grid = refl
