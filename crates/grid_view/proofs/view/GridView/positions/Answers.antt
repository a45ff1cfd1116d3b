use Rattle.std.proofs.Common.{◌+◌, ◌∙◌, subst, sym, ap, arith}
use Rattle.grid_view.proofs.PositionLemmas.{FoundBefore, found_none, found_next, found_one, found_row, found_all, found_in_range}
use Rattle.grid_base.specs.Table.{InRange}
use Rattle.grid_view.proofs.view.GridView.positions.Goals as goal
use Rattle.grid_view.proofs.view.GridView.positions.Goals.{then-test+in_ok-push, else-test}

pub loop-row-init : goal.loop-row-init
loop-row-init g c =
    subst (λ xs. FoundBefore (goal.F-post g) c.args.test c.args.self.now.rows xs 0 0) (sym c.new-found.ensures.items) (found_none (goal.F-post g) c.args.test c.args.self.now.rows)

pub loop-col-preserved : goal.loop-col-preserved
loop-col-preserved g c =
    let t = c.args.self.now.rows in
    let row = c.loop-row.row in
    let col = c.loop-col.col in
    let within : InRange t row col = (omega (arith, c.loop-row-test.true, c.size-rows.ensures.rows), omega (arith, c.loop-col-test.true, c.size-rows.ensures.cols)) in
    elim c.if-test.branch [
      | then-test+in_ok-push w ↦
          subst (λ xs. FoundBefore (goal.F-post g) c.args.test t xs row (col + 1)) (sym (ap (λ v. v.items) w.found-is ∙ w.in_ok-push.ensures.items))
          (found_one (goal.F-post g) c.args.test t c.loop-col.found.items row col c.loop-col.invariant within (c.get_unchecked.result, c.get_unchecked.ensures, w.if-test.ensures))
      | else-test w ↦
          subst (λ xs. FoundBefore (goal.F-post g) c.args.test t xs row (col + 1)) (sym (ap (λ v. v.items) w.found-is))
          (found_next (goal.F-post g) c.args.test t c.loop-col.found.items row col c.loop-col.invariant (c.get_unchecked.result, c.get_unchecked.ensures, w.if-test.ensures))
    ]

pub loop-row-preserved : goal.loop-row-preserved
loop-row-preserved g c =
    found_row (goal.F-post g) c.args.test c.args.self.now.rows c.loop-col.found.items c.loop-row.row c.loop-col.col c.loop-col.invariant (omega (arith, c.loop-col-test.false, c.size-rows.ensures.cols))

pub returns : goal.returns
returns g c =
    let all = found_all (goal.F-post g) c.args.test c.args.self.now.rows c.loop-row.found.items c.loop-row.row (omega (arith, c.loop-row-test.false, c.size-rows.ensures.rows)) c.loop-row.invariant in
    record { found = all; in_range = found_in_range (goal.F-post g) c.args.test c.args.self.now.rows c.loop-row.found.items all }
