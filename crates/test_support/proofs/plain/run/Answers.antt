use Rattle.std.proofs.Common.{Result, Ok, Err, OnErr, ◌+◌, ◌∙◌, ap, map, arith}
use Rattle.grid.specs.Prelude.{command_value, reply_value}
use Rattle.std.proofs.lemmas.List.{map-append, length-map}
use Rattle.test_support.specs.Plain.{items_of_each}
use Rattle.test_support.proofs.GrowLemmas.{rows-stepped, replies-stepped}
use Rattle.test_support.proofs.plain.run.Goals as goal

on_err : {T E : Type 0} (r : Result T E) (P : Type 0) → P → OnErr r P
on_err (Ok x) P p = tt
on_err (Err e) P p = p

pub loop-command-preserved : goal.loop-command-preserved
loop-command-preserved g c =
    let before = c.loop-command.invariant in
    let stepped = c.in_ok-step.ensures in
    record {
      rows = rows-stepped command_value c.args.default c.args.commands.now c.loop-command.command-index c.command-item.result _ _ (omega arith) c.command-item.is before.rows _ stepped.rows;
      replies = replies-stepped command_value c.args.default c.args.commands.now c.loop-command.command-index c.command-item.result _ _ (omega arith) c.command-item.is before.rows _ _ _ before.replies stepped.reply
          (ap (map reply_value) c.in_ok-push.ensures.items ∙ map-append _ _ _);
    }

pub returns-in_err-push-clause-err : goal.returns-in_err-push-clause-err
returns-in_err-push-clause-err g c =
    let before = c.loop-command.invariant in
    on_err c.from_residual-in_err-push.result _
    (record {
      number = c.loop-command.command-index + 1;
      within = omega (arith, length-map c.args.commands.now command_value);
      rows = rows-stepped command_value c.args.default c.args.commands.now c.loop-command.command-index c.command-item.result _ _ (omega arith) c.command-item.is before.rows _ c.in_ok-step.ensures.rows;
    })

pub returns-in_err-step-clause-err : goal.returns-in_err-step-clause-err
returns-in_err-step-clause-err g c =
    on_err c.from_residual.result _
    (record {
      number = c.loop-command.command-index;
      within = omega (arith, length-map c.args.commands.now command_value);
      rows = ap items_of_each c.in_err-step.ensures.err ∙ c.loop-command.invariant.rows;
    })
