-- One line more: a command, none, or the first that is bad.
use Rattle.std.proofs.Common.{◌≡◌, ◌∙◌, [], ◌∷◌, map, inr, sym, ap, rules, append-nil, Some, None, Err}
use Rattle.grid_commands.specs.Command.{command_value}
use Rattle.grid_play.specs.declared.fault.ScriptFault.TheVariants.{BadCommand}
use Rattle.grid_play.specs.Script.{line_commands}
use Rattle.grid_play.proofs.CommandsLemmas.{good_line, bad_line, no_line, pushed_value}
use Rattle.grid_play.proofs.script.parse_commands.Goals as goal

pub returns-in-None-2 : goal.returns-in-None-2
returns-in-None-2 g c =
    let s = c.in-Some.ensures.steps in
    let bad : line_commands c.in-Some.line.now ≡ None = search rules in
    inr (c.loop-number.invariant ∙ (bad_line _ _ c.in-Some.line.now _ _ s.4 s.1 s.2 bad ∙ ap (λ n. Err (BadCommand n)) (sym s.0)))

pub loop-number-preserved-in-Some-None : goal.loop-number-preserved-in-Some-None
loop-number-preserved-in-Some-None g c =
    let s = c.in-Some.ensures.steps in
    let done = map command_value c.loop-number.commands.items in
    let good : line_commands c.in-Some.line.now ≡ Some [] = search rules in
    rw s.3 (c.loop-number.invariant ∙ good_line _ _ c.in-Some.line.now _ done [] done s.4 s.1 s.2 good (sym (append-nil done)))

pub loop-number-preserved : goal.loop-number-preserved
loop-number-preserved g c =
    let s = c.in-Some.ensures.steps in
    let done = map command_value c.loop-number.commands.items in
    let good : line_commands c.in-Some.line.now ≡ Some (command_value c.in-Some-Some.command ∷ []) = search rules in
    let is = pushed_value c.loop-number.commands.items c.push.new.self.items c.in-Some-Some.command c.in_ok-push-in-Some-Some.ensures.items in
    rw s.3 (c.loop-number.invariant ∙ good_line _ _ c.in-Some.line.now _ done _ _ s.4 s.1 s.2 good is)

pub returns : goal.returns
returns g c =
    let s = c.in-None.ensures.steps in
    c.loop-number.invariant ∙ no_line _ _ (map command_value c.loop-number.commands.items) s
