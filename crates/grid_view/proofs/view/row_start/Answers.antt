use Rattle.std.proofs.Common.{◌<◌, ◌*◌, ◌-◌, ap, arith}
use Rattle.grid_view.proofs.view.row_start.Goals as goal

pub overflow_mul-result : goal.overflow_mul-result
overflow_mul-result c =
    let some : 0 < c.args.cols.count = c.requires.holds.size.has_cols (omega arith) in
    let within = c.requires.holds.within c.number.result (c.args.cols.count - 1) c.number.ensures.within (omega arith) in
    omega arith

pub returns : goal.returns
returns c =
    let some : 0 < c.args.cols.count = c.requires.holds.size.has_cols (omega arith) in
    record {
      start = ap (λ n. n * c.args.rows.stride) c.number.ensures.number;
      some = some;
      steps = c.requires.holds.col_steps some;
      within = c.requires.holds.within c.number.result (c.args.cols.count - 1) c.number.ensures.within (omega arith);
    }
