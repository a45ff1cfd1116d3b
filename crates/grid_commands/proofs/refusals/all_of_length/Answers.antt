use Rattle.std.proofs.Common.{length, nat_eq, rules, tests, sym, ◌∙◌}
use Rattle.grid_base.proofs.Common.{YieldsList-from_slice, all_from_yields_List, list_all-map}
use Rattle.grid_commands.proofs.refusals.all_of_length.Goals as goal

pub returns : goal.returns
returns g c =
    all_from_yields_List (λ line. nat_eq (length line.items) c.args.len) _ _ _ c.all.ensures.ran (YieldsList-from_slice c.args.lines.now cc) (λ x b q k. search (rules, tests))
    ∙ sym (list_all-map (λ l. nat_eq (length l) c.args.len) (λ line. line.items) c.args.lines.now)
