use Rattle.std.proofs.Common.{◌∷◌, ◌++◌, map, sym, ap, ◌∙◌, append-nil, subst, refl, []}
use Rattle.std.specs.List.{AllZip}
use Rattle.grid.specs.Prelude.{command_value, set_cell}
use Rattle.grid_changes.specs.Differences.{writes, WritesClone}
use Rattle.grid_changes.proofs.DifferenceLemmas.{one_more, one_copied}
use Rattle.grid_commands.specs.declared.command.Command.TheVariants as a
use Rattle.grid_changes.proofs.differences.sets_of.Goals as goal

pub loop-at-preserved : goal.loop-at-preserved
loop-at-preserved g c = record {
  can = tt;
  finite = tt;
  copies = one_copied (WritesClone g.T.Clone.is_clone) _ _ _ _ _ (a.Set c.in-Some.at.0 c.in-Some.at.1 c.in_ok-copy.copy)
      c.in_ok-push.ensures.items (record { copy = _; is_copy = c.in_ok-copy.ensures.cases; is = refl })
      (λ later zip. c.loop-at.invariant.copies later (subst (λ v. AllZip (WritesClone g.T.Clone.is_clone) v later) (sym c.in-Some.ensures.steps) zip));
  cells = λ same.
      let done = map command_value c.loop-at.commands.items in
      one_more command_value c.loop-at.commands.items c.push.new.self.items _ (writes c.next.new.self) _ c.in_ok-push.ensures.items
      (ap (λ x. done ++ (set_cell c.in-Some.at.0 c.in-Some.at.1 x ∷ writes c.next.new.self)) (same _ _ c.in_ok-copy.ensures.cases)
      ∙ (ap (λ v. done ++ writes v) (sym c.in-Some.ensures.steps) ∙ c.loop-at.invariant.cells same));
}

pub returns-clause-commands : goal.returns-clause-commands
returns-clause-commands g c same =
    let done = map command_value c.loop-at.commands.items in
    sym (append-nil done) ∙ (ap (λ v. done ++ writes v) (sym c.in-None.ensures.steps.0) ∙ c.loop-at.invariant.cells same)

pub returns-clause-clones : goal.returns-clause-clones
returns-clause-clones g c =
    let R = WritesClone g.T.Clone.is_clone in
    let done = c.loop-at.commands.items in
    subst (AllZip R _) (append-nil done) (c.loop-at.invariant.copies [] (subst (λ v. AllZip R v []) (sym c.in-None.ensures.steps.0) tt))
