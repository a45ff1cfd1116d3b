use Rattle.std.proofs.Common.{◌-◌, ◌∙◌, slice_get, length, sym, ap, arith}
use Rattle.grid_base.proofs.Lemmas.{length-left, ahead_wide, get_ahead}
use Rattle.grid_base.proofs.flat.positions.Positions.ahead.Goals as goal

pub overflow_sub-number-2 : goal.overflow_sub-number-2
overflow_sub-number-2 c =
    let s = c.self.inside in
    omega (arith, c.len.ensures, c.len-2.ensures, ap length c.self.view_is, length-left s.layout.order s.layout.rows s.layout.cols s.row s.col c.self.invariant)

pub nonzero_div-number : goal.nonzero_div-number
nonzero_div-number c =
    let s = c.self.inside in
    let seen = ap length c.self.view_is in
    ahead_wide s.layout.order s.layout.rows s.layout.cols s.row s.col c.args.n (c.len.result - (c.len-2.result - c.args.n)) c.lines-width.result c.self.invariant (omega (arith, c.requires, seen)) c.lines-width.ensures (omega (arith, c.len.ensures, c.len-2.ensures, seen))

pub nonzero_rem-number : goal.nonzero_rem-number
nonzero_rem-number c =
    let s = c.self.inside in
    let seen = ap length c.self.view_is in
    ahead_wide s.layout.order s.layout.rows s.layout.cols s.row s.col c.args.n (c.len.result - (c.len-2.result - c.args.n)) c.lines-width.result c.self.invariant (omega (arith, c.requires, seen)) c.lines-width.ensures (omega (arith, c.len.ensures, c.len-2.ensures, seen))

pub returns : goal.returns
returns c =
    let s = c.self.inside in
    let seen = ap length c.self.view_is in
    ap (λ l. slice_get l c.args.n) (sym c.self.view_is)
    ∙ get_ahead s.layout.order s.layout.rows s.layout.cols s.row s.col c.args.n (c.len.result - (c.len-2.result - c.args.n)) c.lines-width.result c.self.invariant (omega (arith, c.requires, seen)) c.lines-width.ensures (omega (arith, c.len.ensures, c.len-2.ensures, seen)) c.at.result c.at.ensures
