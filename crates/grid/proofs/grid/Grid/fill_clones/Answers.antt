use Rattle.std.proofs.Common.{rules, ◌≡◌, replicate, length}
use Rattle.grid.proofs.Common.{on_ok_weaker, on_err_weaker, ClonesAreEqual, table_of, filled}
use Rattle.grid.proofs.Lemmas.{seen_filled, seen_none, seen_same}
use Rattle.grid.proofs.grid.Grid.fill_clones.Goals as goal

pub returns-clause-ok : goal.returns-clause-ok
returns-clause-ok g c =
    let s = c.self.inside in
    on_ok_weaker {P = ClonesAreEqual g.T.Clone.is_clone → c.fill.new.self ≡ replicate (length c.self.inside.flat) c.args.value}
    {Q = ClonesAreEqual g.T.Clone.is_clone → table_of c.self.inside.order c.self.inside.row_count c.self.inside.col_count c.fill.new.self ≡ filled c.args.value c.args.self.now.rows}
    c.fill.result
    (λ f same. seen_filled c.args.value s.order s.row_count s.col_count s.flat c.fill.new.self c.args.self.now c.self.inside.fits c.self.view_is (f same))
    c.fill.ensures.ok

pub returns-clause-empty : goal.returns-clause-empty
returns-clause-empty g c = λ e. c.fill.ensures.none (seen_none _ _ _ _ _ c.self.inside.fits c.self.view_is e)

pub returns-clause-err : goal.returns-clause-err
returns-clause-err g c = on_err_weaker c.fill.result (λ same. seen_same _ _ _ _ _ c.self.inside.fits c.self.view_is _ _ same) c.fill.ensures.err

pub returns-clause-order : goal.returns-clause-order
returns-clause-order g c = search rules
