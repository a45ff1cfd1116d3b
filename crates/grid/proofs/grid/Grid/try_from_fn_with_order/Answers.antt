use Rattle.std.proofs.Common.{Ok, arith, rules}
use Rattle.grid.proofs.Common.{IsSize, positions, PairsUp, FailsFirst, FitsUsize-size}
use Rattle.grid.proofs.Lemmas.{callable_positions, answers_made, seen_made, fails_at}
use Rattle.grid.proofs.grid.Grid.try_from_fn_with_order.Goals as goal

pub try_from_fn-requires : goal.try_from_fn-requires
try_from_fn-requires g c =
    let size : IsSize c.args.rows c.args.cols = record { has_cols = λ _. omega arith; has_rows = λ _. omega arith } in
    record { calls = callable_positions c.args.order c.args.rows c.args.cols size _ _ (FitsUsize-size _ _ size (search rules)) c.requires }

pub returns-in-Ok-clause-made : goal.returns-in-Ok-clause-made
returns-in-Ok-clause-made g c = seen_made c.args.order c.args.rows c.args.cols _ _ (omega arith) (omega arith)

pub returns-in-Ok-clause-cells : goal.returns-in-Ok-clause-cells
returns-in-Ok-clause-cells g c =
    let size : IsSize c.args.rows c.args.cols = record { has_cols = λ _. omega arith; has_rows = λ _. omega arith } in
    let pairs : PairsUp (λ at y. goal.F-post g c.args.f at (Ok y)) (positions c.args.order c.args.rows c.args.cols) c.in-Ok.flat =
    rw c.in-Ok.is at c.in_ok-made.ensures.cells in
    answers_made c.args.order c.args.rows c.args.cols size (λ f at y. goal.F-post g f at (Ok y)) c.args.f _ pairs

pub returns-in-Err-clause-failed : goal.returns-in-Err-clause-failed
returns-in-Err-clause-failed g c =
    let size : IsSize c.args.rows c.args.cols = record { has_cols = λ _. omega arith; has_rows = λ _. omega arith } in
    let first : FailsFirst (goal.F-post g c.args.f) (positions c.args.order c.args.rows c.args.cols) c.in-Err.error =
    rw c.in-Err.is at c.in_ok-made.ensures.failed in
    fails_at c.args.order c.args.rows c.args.cols size (goal.F-post g c.args.f) c.in-Err.error first
