use Rattle.std.proofs.Common.{ap, arith, length, sym, ◌∙◌}
use Rattle.grid_base.proofs.Lemmas.{place_and_rest, one_left}
use Rattle.grid_base.proofs.flat.positions.Positions.pass.Goals as goal

pub place_after-row-requires-clause-row_in : goal.place_after-row-requires-clause-row_in
place_after-row-requires-clause-row_in c =
    let s = c.self.inside in
    (one_left s.layout.order s.layout.rows s.layout.cols s.row s.col c.self.invariant (omega (arith, c.requires, ap length c.self.view_is))).0

pub place_after-row-requires-clause-col_in : goal.place_after-row-requires-clause-col_in
place_after-row-requires-clause-col_in c =
    let s = c.self.inside in
    (one_left s.layout.order s.layout.rows s.layout.cols s.row s.col c.self.invariant (omega (arith, c.requires, ap length c.self.view_is))).1

pub returns : goal.returns
returns c =
    let s = c.self.inside in
    let here = one_left s.layout.order s.layout.rows s.layout.cols s.row s.col c.self.invariant (omega (arith, c.requires, ap length c.self.view_is)) in
    sym c.self.view_is ∙ place_and_rest s.layout.order s.layout.rows s.layout.cols s.row s.col _ c.self.invariant.size here.0 here.1 c.place_after-row.ensures.after
