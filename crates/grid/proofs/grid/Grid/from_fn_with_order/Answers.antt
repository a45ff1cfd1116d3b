use Rattle.std.proofs.Common.{arith, rules}
use Rattle.grid.proofs.Common.{FitsUsize-size}
use Rattle.grid.proofs.Lemmas.{callable_positions, answers_made, seen_made}
use Rattle.grid_base.specs.Table.{IsSize}
use Rattle.grid.proofs.grid.Grid.from_fn_with_order.Goals as goal

pub from_fn-requires : goal.from_fn-requires
from_fn-requires g c =
    let size : IsSize c.args.rows c.args.cols = record { has_cols = λ _. omega arith; has_rows = λ _. omega arith } in
    record { calls = callable_positions c.args.order c.args.rows c.args.cols size _ _ (FitsUsize-size _ _ size (search rules)) c.requires }

pub returns-clause-made : goal.returns-clause-made
returns-clause-made g c = seen_made c.args.order c.args.rows c.args.cols _ _ (omega arith) (omega arith)

pub returns-clause-cells : goal.returns-clause-cells
returns-clause-cells g c =
    let size : IsSize c.args.rows c.args.cols = record { has_cols = λ _. omega arith; has_rows = λ _. omega arith } in
    answers_made c.args.order c.args.rows c.args.cols size (λ f at y. goal.F-post g f at y) c.args.f _ c.in_ok-flat.ensures.cells
