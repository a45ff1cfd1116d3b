use Rattle.std.proofs.Common.{arith, ◌≡◌, ◌++◌, ◌∙◌, ap, take, drop, length}
use Rattle.grid_base.proofs.Common.{common_steps}
use Rattle.grid_base.proofs.ApartLemmas.{taken_from_line}
use Rattle.grid_base.proofs.flat.Flat.take_from_line.Goals as goal

pub returns-clause-taken : goal.returns-clause-taken
returns-clause-taken g c =
    let long = c.exchange_apart.ensures.exchanged.length_stays in
    let short : take c.split_off.new.self.len (c.exchange_apart.new.cells ++ drop (length c.exchange_apart.new.cells) c.split_off.new.self.items) ≡ c.exchange_apart.new.cells = grind (arith, common_steps) in
    let line : take c.in_ok-taken.taken.len (c.exchange_apart.new.line ++ drop (length c.exchange_apart.new.line) c.in_ok-taken.taken.items) ≡ c.exchange_apart.new.line = grind (arith, common_steps) in
    let front = c.as_mut_slice.ensures.value ∙ (c.in_ok-taken.ensures.items ∙ ap (take c.args.groups.width) c.self.view_is) in
    let back = c.as_mut_slice-2.ensures.value ∙ (c.in_ok-taken.ensures.tail ∙ ap (drop c.args.groups.width) c.self.view_is) in
    rw (short, line)
    (taken_from_line _ _ _ _ _ c.as_mut_slice.result.now c.as_mut_slice-2.result.now _ _ c.requires.single c.args.groups.within c.requires.cells front back c.exchange_apart.ensures.cells c.exchange_apart.ensures.exchanged)
