use Rattle.std.proofs.Common.{◌+◌, ◌-◌, arith, refl}
use Rattle.std.proofs.lemmas.Bool.{leb-true, le-leb}
use Rattle.grid_rays.proofs.RunLemmas.{AreOpposite-beside, run_ahead, run_counted, run_there}
use Rattle.grid_rays.proofs.along.has_run_along.Goals as goal

pub returns-then-ahead-most : goal.returns-then-ahead-most
returns-then-ahead-most g c =
    let opposite = AreOpposite-beside c.args.way c.opposite-back.result c.opposite-back.ensures in (
      λ e. run_ahead g.T.PartialEq.eq c.args.board.now.rows c.args.at c.args.way c.opposite-back.result opposite c.alike_in-ahead.result c.alike_in-ahead.ensures.alike.each c.args.n c.requires.inside c.requires.some (omega (arith, c.if-ahead-most.true)),
      λ h. refl,
    )

pub returns : goal.returns
returns g c =
    let t = c.args.board.now.rows in
    let eq = g.T.PartialEq.eq in
    let back = c.opposite-back.result in
    let opposite = AreOpposite-beside c.args.way back c.opposite-back.ensures in
    let ahead = c.alike_in-ahead.result in
    let behind = c.alike_in-behind.result in
    let a = c.alike_in-ahead.ensures.alike in
    let b = c.alike_in-behind.ensures.alike in (
      λ e. run_there eq t c.args.at c.args.way back opposite ahead behind a.each b.each c.args.n c.requires.inside c.requires.some (omega (arith, leb-true (c.args.n - 1) (ahead + behind) e)),
      λ h. le-leb (c.args.n - 1) (ahead + behind) (run_counted eq t c.args.at c.args.way back opposite ahead behind c.args.n a b (omega (arith, c.if-ahead-most.false, a.few)) h.0 h.1 h.2),
    )
