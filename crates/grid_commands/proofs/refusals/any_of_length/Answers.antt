use Rattle.std.proofs.Common.{◌≡◌, Bool, ◌||◌, List, [], ◌∷◌, map, length, nat_eq, rules, tests, refl, sym, ap, ◌∙◌}
use Rattle.grid_base.proofs.Common.{YieldsList-from_slice, any_from_yields_List, list_any}
use Rattle.grid_commands.proofs.refusals.any_of_length.Goals as goal

list_any-items : {X Y : Type 0} (p : Y → Bool) (h : X → Y) (xs : List X) → list_any p (map h xs) ≡ list_any (λ x. p (h x)) xs
list_any-items p h [] = refl
list_any-items p h (x ∷ xs) = ap (λ b. p (h x) || b) (list_any-items p h xs)

pub returns : goal.returns
returns g c =
    any_from_yields_List (λ line. nat_eq (length line.items) c.args.len) _ _ _ c.any.ensures.ran (YieldsList-from_slice c.args.lines.now cc) (λ x b q k. search (rules, tests))
    ∙ sym (list_any-items (λ l. nat_eq (length l) c.args.len) (λ line. line.items) c.args.lines.now)
