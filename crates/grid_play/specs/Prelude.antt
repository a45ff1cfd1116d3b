-- The words of contracts, passed on from one place. Declares nothing.
pub use Rattle.grid_commands.specs.Command.{command_value}
unfoldable pub use Rattle.grid_play.specs.Commands.{bare_forms, cell_forms, count_forms, index_forms, command_of, two_indices, position_and_cell, two_positions, index_and_line, index_and_lines}
pub use Rattle.grid_play.specs.Commands.{alone, form_among, command_among, with_no_word, one_cell, one_index, lines_of_length, cells_of}
unfoldable pub use Rattle.grid_play.specs.Output.{script_output}
pub use Rattle.grid_play.specs.Output.{reason_text, line_text, reply_line, rows_line}
unfoldable pub use Rattle.grid_play.specs.Script.{grid_of, line_commands, script_of}
pub use Rattle.grid_play.specs.Script.{IsOrMemory, or_fault, order_of, layout, grid_of_words, commands_from}
pub use Rattle.grid_play.specs.ScriptFault.{fault_status, fault_text}
pub use Rattle.grid_play.specs.ScriptValue.{script_value}
unfoldable pub use Rattle.text_lines.specs.Lines.{lines_of}
pub use Rattle.text_lines.specs.Lines.{words_of}
