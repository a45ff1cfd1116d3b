use Rattle.std.proofs.Common.{◌<◌, ap, ◌∙◌, drop, arith}
use Rattle.grid_pairs.proofs.PartLemmas.{parts_past, none_past}
use Rattle.grid_pairs.proofs.parts.PartIter.skip.Goals as goal

pub returns : goal.returns
returns g c =
    let s = c.self.inside in
    let lt : c.args.n < s.left = omega (arith, c.if-self-n.false) in
    parts_past s.board.rows s.step s.size s.whole s.count s.row s.col s.left c.self.invariant (omega (arith, lt)) c.args.n lt ∙ ap (drop c.args.n) c.self.view_is

pub returns-then-self-n : goal.returns-then-self-n
returns-then-self-n g c =
    let s = c.self.inside in
    none_past s.board.rows s.step s.size s.whole s.count s.row s.col s.left c.self.invariant c.args.n (omega (arith, c.if-self-n.true)) ∙ ap (drop c.args.n) c.self.view_is
