-- What the run of a script writes.
use Rattle.std.specs.Prelude.{ℕ, ℤ, pos, true, false, None, Some, Result, Ok, List, ◌++◌, codes, decimal, flat_map}
use Rattle.grid.specs.Prelude.{ReplyValue, done, size_is, cell_is, line_is, flag_is, refused, run_rows, run_replies}
use Rattle.std.specs.List.{join_by}
use Rattle.std.specs.Fmt.{signed_decimal}
use Rattle.grid_commands.specs.declared.command.Refusal.{Refusal}
use Rattle.grid_commands.specs.declared.command.Refusal.TheVariants.{EmptyLine, Length, Index, TooLarge}
use Rattle.grid_play.specs.declared.fault.ScriptFault.{ScriptFault}
use Rattle.grid_play.specs.Script.{◌>>◌, ScriptValue, script_of}

-- why a command was refused
abbrev pub reason_text : Refusal → List ℕ
reason_text EmptyLine = codes "empty line"
reason_text Length = codes "length"
reason_text Index = codes "index"
reason_text TooLarge = codes "too large"

-- a line of cells, each after a space
abbrev pub line_text : List ℤ → List ℕ
line_text cells = codes "line" ++ flat_map (λ cell. codes " " ++ signed_decimal cell) cells

-- a reply, without its line end
abbrev pub reply_text : ReplyValue ℤ → List ℕ
reply_text done = codes "ok"
reply_text (size_is rows cols) = codes "size " ++ decimal rows ++ codes " " ++ decimal cols
reply_text (cell_is (Some cell)) = codes "cell " ++ signed_decimal cell
reply_text (cell_is None) = codes "none"
reply_text (line_is (Some cells)) = line_text cells
reply_text (line_is None) = codes "none"
reply_text (flag_is true) = codes "yes"
reply_text (flag_is false) = codes "no"
reply_text (refused refusal) = codes "refused " ++ reason_text refusal

abbrev pub reply_line : ReplyValue ℤ → List ℕ
reply_line reply = reply_text reply ++ codes "\n"

-- the rows of a table, each in brackets with commas between its cells, all in brackets
abbrev pub row_text : List ℤ → List ℕ
row_text row = codes "[" ++ join_by signed_decimal (codes ", ") row ++ codes "]"

abbrev pub rows_line : List (List ℤ) → List ℕ
rows_line table = codes "[" ++ flat_map row_text table ++ codes "]\n"

-- the plain run of the commands on the table, where 0 is the cells' default: a line for each reply,
-- and last the rows
unfoldable pub output_of : ScriptValue → List ℕ
output_of script =
    flat_map reply_line (run_replies (pos 0) script.commands script.grid.rows)
    ++ rows_line (run_rows (pos 0) script.commands script.grid.rows)

-- what a script writes, or what is wrong with it
unfoldable pub script_output : List ℕ → Result (List ℕ) ScriptFault
script_output input = script_of input >> (λ script. Ok (output_of script))
