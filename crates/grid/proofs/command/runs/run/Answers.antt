use Rattle.std.proofs.Common.{◌≡◌, ◌<◌, refl, inl, Result, Ok, Err, OnOk, OnErr, true, false, ◌∙◌, ◌++◌, ◌∷◌, [], length, map, sym, ap, arith, length-append, append_assoc, is_err, append-nil}
use Rattle.grid.proofs.Common.{into_iter_items, map-append, nil_from_length, command_value, reply_value}
use Rattle.grid.proofs.Lemmas.{running_none, running_more, ran_still, take_values, get_value, some_values, may_stop}
use Rattle.grid.proofs.command.runs.run.Goals as goal

on_ok : {T E : Type 0} (r : Result T E) (P : Type 0) → is_err r ≡ false → OnOk r P → P
on_ok (Ok x) P h p = p
on_ok (Err e) P h p = absurd (cc)

on_err : {T E : Type 0} (r : Result T E) (P : Type 0) → is_err r ≡ true → OnErr r P → P
on_err (Ok x) P h p = absurd (cc)
on_err (Err e) P h p = p

pub loop-command-init : goal.loop-command-init
loop-command-init g c = record {
  can = tt;
  finite = tt;
  rest = c.into_iter-command-iterator.ensures.into_iter_gives.0;
  running = rw (c.reserve_exact.ensures.items, c.new-replies.ensures.items) (running_none _ _ _ _);
  symmetry_grows = omega arith;
  shift_grows = omega arith;
  count = c.reserve_exact.ensures.len ∙ c.new-replies.ensures.len;
  room = let room = on_ok _ _ (sym c.is_err.ensures.value ∙ c.if-is_err.false) c.reserve_exact.ensures.ok in omega (arith, room, c.len.ensures);
}

pub push_reserved-requires : goal.push_reserved-requires
push_reserved-requires g c =
    let i = c.loop-command.invariant in
    let s = c.in-Some.ensures.steps in
    let a = ap length i.rest in
    let b = rw s.0 at a in
    grind (arith, i.count, b, length-append, i.room)

pub loop-command-preserved : goal.loop-command-preserved
loop-command-preserved g c =
    let i = c.loop-command.invariant in
    let s = c.in-Some.ensures.steps in
    let e = c.in-Ok.ensures in
    let p = c.push_reserved.ensures in
    record {
      can = tt;
      finite = tt;
      rest = rw append_assoc (rw s.0 at i.rest);
      running =
          rw (map-append command_value c.loop-command.yielded (c.in-Some.command ∷ []))
          (running_more _ _ _ (command_value c.in-Some.command) _ _ _ _ _ _ _ _ _ i.running e.stepped.rows
          (ap (map reply_value) p.items ∙ map-append reply_value _ _)
          e.stepped.reply
          e.order e.counted.symmetry e.counted.shift);
      symmetry_grows = omega (arith, e.counted.symmetry, i.symmetry_grows);
      shift_grows = omega (arith, e.counted.shift, i.shift_grows);
      count = grind (arith, p.len, i.count, length-append);
      room = grind (arith, p.capacity, i.room);
    }

pub returns-then-is_err-clause-gives : goal.returns-then-is_err-clause-gives
returns-then-is_err-clause-gives g c =
    let full = on_err _ _ (sym c.is_err.ensures.value ∙ c.if-is_err.true) c.reserve_exact.ensures.full in
    let some : 0 < length c.args.commands.items = omega (arith, full, c.new-replies.ensures.len, c.len.ensures) in
    record {
      ran = tt;
      stopped = rw (c.reserve_exact.ensures.items, c.new-replies.ensures.items) (running_none _ _ _ _).ran;
      stop = inl (refl, some_values command_value c.args.commands.items some);
    }

pub returns-in-Err-clause-gives : goal.returns-in-Err-clause-gives
returns-in-Err-clause-gives g c =
    let i = c.loop-command.invariant in
    let s = c.in-Some.ensures.steps in
    let e = c.in-Err.ensures in
    record {
      ran = tt;
      stopped =
          rw (take_values command_value c.args.commands.items c.loop-command.yielded _ c.len-done.result i.rest (c.len-done.ensures ∙ i.count))
          (ran_still _ _ _ _ _ _ _ _ _ _ i.running.ran e.err e.counted.err_symmetry e.counted.err_shift);
      stop =
          may_stop _ _ (command_value c.in-Some.command) _ _
          (get_value command_value _ _ _ _ _ (rw s.0 at i.rest) (c.len-done.ensures ∙ i.count))
          (ap (λ s. s.rows) e.err) e.stepped.err_memory;
    }

pub returns-clause-gives : goal.returns-clause-gives
returns-clause-gives g c =
    let i = c.loop-command.invariant in
    let s = c.in-None.ensures.steps in
    let none : into_iter_items c.loop-command.command-iterator ≡ [] = nil_from_length _ (grind (arith, s.0)) in
    let all : c.loop-command.yielded ≡ c.args.commands.items = sym (append-nil c.loop-command.yielded) ∙ (ap (λ v. c.loop-command.yielded ++ v) (sym none) ∙ i.rest) in
    record { ran = rw (← all) i.running.ran; stopped = tt; stop = tt }
