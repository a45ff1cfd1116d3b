use Rattle.std.proofs.Common.{◌≡◌, ◌<◌, suc, subst, List, ◌++◌, ◌∷◌, [], map, length, rules, Result, Ok, Err, OnOk, OnErr, true, false, refl, inl, sym, ◌∙◌, ap, arith, length-append, append_assoc, append-nil, is_err, take}
use Rattle.grid_deferred.proofs.Common.{map-append, nil_from_length, into_iter_items, GridValue, Counts, CommandValue, command_value, reply_value, MayStop, act-identity, take_values, get_value, some_values, may_stop, base, pending, shown, RanDeferred, DeferredRunGives}
use Rattle.grid_deferred.proofs.Lemmas.{going_none, going_more, still_going, settled, ran_none}
use Rattle.grid_commands.specs.declared.command.RunStopped.{RunStopped}
use Rattle.grid_deferred.proofs.run.run_deferred.Goals as goal

on_ok : {T E : Type 0} (r : Result T E) (P : Type 0) → is_err r ≡ false → OnOk r P → P
on_ok (Ok x) P h p = p
on_ok (Err e) P h p = absurd (cc)

on_err : {T E : Type 0} (r : Result T E) (P : Type 0) → is_err r ≡ true → OnErr r P → P
on_err (Ok x) P h p = absurd (cc)
on_err (Err e) P h p = p

pub loop-command-init : goal.loop-command-init
loop-command-init g c =
    let none = c.reserve_exact.ensures.items ∙ c.new-replies.ensures.items in
    record {
      can = tt;
      finite = tt;
      rest = c.into_iter-command-iterator.ensures.into_iter_gives.0;
      name = refl;
      symmetry = refl;
      going = rw (c.over-deferred.ensures.base, c.over-deferred.ensures.pending, none) (going_none _ _ _ _ c.args.grid.now.table (act-identity _ c.args.grid.now.table));
      shift_grows = omega arith;
      count = c.reserve_exact.ensures.len ∙ c.new-replies.ensures.len;
      room = let room = on_ok _ _ (sym c.is_err.ensures.value ∙ c.if-is_err.false) c.reserve_exact.ensures.ok in omega (arith, room, c.len.ensures);
    }

pub loop-command-preserved : goal.loop-command-preserved
loop-command-preserved g c =
    let i = c.loop-command.invariant in
    let s = c.in-Some.ensures.steps in
    let e = c.in-Ok.ensures in
    let p = c.push_reserved.ensures in
    record {
      can = tt;
      finite = tt;
      rest = rw append_assoc (rw s.0 at i.rest);
      name = c.step.ensures.same_reference ∙ i.name;
      symmetry = c.step.ensures.symmetry ∙ i.symmetry;
      going =
          rw (map-append command_value c.loop-command.yielded (c.in-Some.command ∷ []))
          (going_more _ _ _ (command_value c.in-Some.command) _ _ _ _ _ _ _ _ _ _ _ i.going c.step.new.self.base.now.table c.step.ensures.order e.stepped.rows e.pending e.shift
          (ap (map reply_value) p.items ∙ map-append reply_value _ _)
          e.stepped.reply);
      shift_grows = omega (arith, e.shift, i.shift_grows);
      count = grind (arith, p.len, i.count, length-append);
      room = grind (arith, p.capacity, i.room);
    }

-- a run that stopped, said of the grid under its name after the call
settled_as : {T A : Type 0} (C : T → T → Type 0) (P : T → Type 0) (xs : List (CommandValue T)) (old v w : GridValue T) (before after : Counts) (stop : RunStopped T A) → v ≡ w → RanDeferred C P (take stop.done xs) old v before after (map reply_value stop.replies.items) → MayStop xs stop.done v.rows → DeferredRunGives C P xs old w before after (Err stop)
settled_as C P xs old v w before after stop is ran may =
    let ran : RanDeferred C P (take stop.done xs) old w before after (map reply_value stop.replies.items) = subst (λ z. RanDeferred C P (take stop.done xs) old z before after (map reply_value stop.replies.items)) is ran in
    record { ran = tt; stopped = ran; stop = subst (λ z. MayStop xs stop.done z.rows) is may }

pub returns-in-Err-clause-gives : goal.returns-in-Err-clause-gives
returns-in-Err-clause-gives g c =
    let i = c.loop-command.invariant in
    let e = c.in-Err.ensures in
    let f = c.settle.ensures in
    settled_as _ _ _ _ c.settle.new.self.0 _ _ _ _ (search rules)
    (rw (take_values command_value c.args.commands.items c.loop-command.yielded _ c.len-done.result i.rest (c.len-done.ensures ∙ i.count))
    (settled _ _ _ _ (base c.step.new.self) _ (pending c.step.new.self) _ c.step.new.tally _ _
    (still_going _ _ _ _ _ _ _ _ _ _ _ _ i.going e.err_base e.err_pending e.err_shift)
    (c.step.ensures.symmetry ∙ i.symmetry) f.rows f.order f.symmetry f.shift))
    (may_stop _ _ (command_value c.in-Some.command) _ (shown c.step.new.self)
    (get_value command_value _ _ _ _ _ (rw c.in-Some.ensures.steps.0 at i.rest) (c.len-done.ensures ∙ i.count))
    f.rows (rw (e.err_base, e.err_pending) e.stepped.err_memory))

pub returns-clause-gives : goal.returns-clause-gives
returns-clause-gives g c =
    let i = c.loop-command.invariant in
    let e = c.settle-2.ensures in
    let s = c.in-None.ensures.steps in
    let none : into_iter_items c.loop-command.command-iterator ≡ [] = nil_from_length _ (grind (arith, s.0)) in
    let all : c.loop-command.yielded ≡ c.args.commands.items = sym (append-nil c.loop-command.yielded) ∙ (ap (λ v. c.loop-command.yielded ++ v) (sym none) ∙ i.rest) in
    record {
      ran =
          rw (← all) (settled _ _ _ _ (base c.loop-command.deferred) _ (pending c.loop-command.deferred) _ c.loop-command.tally _ _ i.going i.symmetry (search rules) (search rules) e.symmetry e.shift);
      stopped = tt;
      stop = tt;
    }

pub returns-then-is_err-clause-gives : goal.returns-then-is_err-clause-gives
returns-then-is_err-clause-gives g c =
    let full = on_err _ _ (sym c.is_err.ensures.value ∙ c.if-is_err.true) c.reserve_exact.ensures.full in
    let some : 0 < length c.args.commands.items = omega (arith, full, c.new-replies.ensures.len, c.len.ensures) in
    record {
      ran = tt;
      stopped = rw (c.reserve_exact.ensures.items, c.new-replies.ensures.items) (ran_none _ _ _ _ c.args.grid.now.table);
      stop = inl (refl, some_values command_value c.args.commands.items some);
    }
