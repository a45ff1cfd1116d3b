-- What the code's edits of lines say, and commands as the code reads them.
use Rattle.std.specs.Prelude.{ℕ, Bool, true, false}
use Rattle.grid_base.specs.Gather.{items_of_each}
use Rattle.grid_commands.specs.declared.request.LineEdit.{LineEdit}
use Rattle.grid_commands.specs.declared.request.Request.{Request}
use Rattle.grid_commands.specs.Command.{Edit, read, push, insert_at, insert_all, pop, remove_at, delete_at, delete_range, expand, prepend, CommandValue, size, get, set_cell, swap_cells, lines, fill, clear, apply}
use Rattle.grid_commands.specs.declared.request.LineEdit.TheVariants as the
use Rattle.grid_commands.specs.declared.request.Request.TheVariants as a_request

module _ {T : Type 0} where
  -- padding by k lines, at the end or at the beginning
  abbrev pub pad_edit : Bool → ℕ → Edit T
  pad_edit true k = expand k
  pad_edit false k = prepend k

module _ {T A : Type 0} where
  abbrev pub edit_value : LineEdit T A → Edit T
  edit_value (the.Read at) = read at
  edit_value (the.Push line) = push line.items
  edit_value (the.Insert at line) = insert_at at line.items
  edit_value (the.InsertAll at ls) = insert_all at (items_of_each ls.items)
  edit_value the.Pop = pop
  edit_value (the.Remove at) = remove_at at
  edit_value (the.Delete at) = delete_at at
  edit_value (the.DeleteRange start count) = delete_range start count
  edit_value (the.Expand count) = expand count
  edit_value (the.Prepend count) = prepend count

  abbrev pub request_value : Request T A → CommandValue T
  request_value a_request.Size = size
  request_value (a_request.Get r c) = get r c
  request_value (a_request.Set r c v) = set_cell r c v
  request_value (a_request.Swap p q) = swap_cells p q
  request_value (a_request.Lines a e) = lines a (edit_value e)
  request_value (a_request.Fill v) = fill v
  request_value a_request.Clear = clear
  request_value (a_request.Apply s) = apply s
