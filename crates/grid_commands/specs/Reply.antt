-- What replies say.
use Rattle.std.specs.Prelude.{ℕ, Bool, Option, List, option_map}
use Rattle.grid_commands.specs.declared.command.Refusal.{Refusal}
use Rattle.grid_commands.specs.declared.command.Reply.{Reply}
use Rattle.grid_commands.specs.declared.command.Reply.TheVariants as the

-- what a contract sees of a reply: a line of cells is the list of them
pub data ReplyValue (T : Type 0) : Type 0 where
  done : ReplyValue T
  size_is : ℕ → ℕ → ReplyValue T
  cell_is : Option T → ReplyValue T
  line_is : Option (List T) → ReplyValue T
  flag_is : Bool → ReplyValue T
  refused : Refusal → ReplyValue T

abbrev pub reply_value : {T A : Type 0} → Reply T A → ReplyValue T
reply_value the.Done = done
reply_value (the.Size m n) = size_is m n
reply_value (the.Cell x) = cell_is x
reply_value (the.Line x) = line_is (option_map (λ l. l.items) x)
reply_value (the.Flag b) = flag_is b
reply_value (the.Refused r) = refused r
