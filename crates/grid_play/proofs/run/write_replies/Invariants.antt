-- The lines of the replies so far.
use Rattle.std.proofs.Common.{◌≡◌, ◌++◌, take, map, flat_map, string_bytes}
use Rattle.grid_commands.specs.Reply.{reply_value}
use Rattle.grid_play.specs.Output.{reply_line}
use Rattle.grid_play.proofs.run.write_replies.Given as goal

abbrev pub invariant-loop-reply : goal.invariant-loop-reply
invariant-loop-reply g l =
    string_bytes l.output ≡ string_bytes l.fn.output ++ flat_map reply_line (map reply_value (take l.reply-index l.replies))
