use Rattle.std.proofs.Common.{length, nat_eq, rules, tests, sym, ◌∙◌}
use Rattle.std.proofs.lemmas.Iterator.{YieldsList-from_slice}
use Rattle.std.proofs.lemmas.Iterator.Search.{all_from_yields_List}
use Rattle.std.proofs.lemmas.List.Folds.{list_all-map}
use Rattle.test_support.proofs.plain.refusals.all_of_length.Goals as goal

pub returns : goal.returns
returns g c =
    all_from_yields_List (λ line. nat_eq (length line.items) c.args.len) _ _ _ c.all.ensures.ran (YieldsList-from_slice c.args.lines.now cc) (λ x b q k. search (rules, tests))
    ∙ sym (list_all-map (λ l. nat_eq (length l) c.args.len) (λ line. line.items) c.args.lines.now)
