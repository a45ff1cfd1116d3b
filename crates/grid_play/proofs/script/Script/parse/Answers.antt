-- A script is its first line and the commands of the others.
use Rattle.std.proofs.Common.{◌≡◌, ◌+◌, ◌∙◌, inr, ap, rules, map}
use Rattle.std.proofs.lemmas.Result.{err_from_is_err_and}
use Rattle.grid_commands.specs.Command.{command_value}
use Rattle.grid_play.specs.Script.{layout}
use Rattle.grid_play.proofs.ScriptLemmas.{no_lines, grid_fails, commands_fail, both_read}
use Rattle.grid_play.proofs.script.Script.parse.Goals as goal

pub returns-in_default : goal.returns-in_default
returns-in_default g c = inr (no_lines c.args.input.now (search rules))

pub returns-in_err-grid : goal.returns-in_err-grid
returns-in_err-grid g c =
    let s = rw c.of-lines.ensures.rest at c.in-Some.ensures.steps in
    let p = err_from_is_err_and c.from_residual-in_err-grid.result c.from_residual-in_err-grid.ensures.1 in
    rw (p.1, p.2) (grid_fails c.args.input.now c.in-Some.first.now c.next.new.self.rest.now s.4 s.1 s.2 c.in_err-grid.field-0.0 c.in_err-grid.ensures)

pub returns-in_err-commands : goal.returns-in_err-commands
returns-in_err-commands g c =
    let s = rw c.of-lines.ensures.rest at c.in-Some.ensures.steps in
    let one : c.next.new.self.count + 1 ≡ 2 = ap (λ n. n + 1) (s.3 ∙ ap (λ n. n + 1) c.of-lines.ensures.count) in
    let p = err_from_is_err_and c.from_residual-in_err-commands.result c.from_residual-in_err-commands.ensures.1 in
    rw (p.1, p.2) (commands_fail c.args.input.now c.in-Some.first.now c.next.new.self.rest.now s.4 s.1 s.2 (layout c.in_ok-grid.grid) c.in_err-commands.field-0.0 c.in_ok-grid.ensures (rw one at c.in_err-commands.ensures))

pub returns : goal.returns
returns g c =
    let s = rw c.of-lines.ensures.rest at c.in-Some.ensures.steps in
    let one : c.next.new.self.count + 1 ≡ 2 = ap (λ n. n + 1) (s.3 ∙ ap (λ n. n + 1) c.of-lines.ensures.count) in
    both_read c.args.input.now c.in-Some.first.now c.next.new.self.rest.now s.4 s.1 s.2 (layout c.in_ok-grid.grid) (map command_value c.in_ok-commands.commands.items) c.in_ok-grid.ensures (rw one at c.in_ok-commands.ensures)
