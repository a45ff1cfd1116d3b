use Rattle.std.proofs.Common.{◌≡◌, suc, ◌-◌, ◌∙◌, sym, ap, arith}
use Rattle.grid_lines.specs.Brought.{taken_back}
use Rattle.grid_lines.proofs.rewrite.take_back.Goals as goal

pub loop-col-preserved : goal.loop-col-preserved
loop-col-preserved g c =
    let k = c.loop-col.col - 1 in
    let more : c.loop-col.col ≡ suc (c.loop-col.col - 1) = omega arith in
    ap (taken_back c.args.rows c.args.row k) c.swap.ensures.after
    ∙ (sym (ap (λ j. taken_back c.args.rows c.args.row j c.loop-col.cells) more) ∙ c.loop-col.invariant)
