use Rattle.std.proofs.Common.{ap, refl, ◌∙◌, rules, heap_items}
use Rattle.grid_paths.proofs.Common.{with_cell, numbers}
use Rattle.grid_paths.proofs.Lemmas.{numbers-with, waits_too}
use Rattle.grid_paths.proofs.costs.Frontier.put.Goals as goal

pub returns : goal.returns
returns g c =
    let w = g.N.Width.reads in
    let f = c.args.self.now in
    let t = f.sums.rows in
    let at = c.args.at in
    let number = c.of_sum-number.result in
    let place = c.of_position.result in
    record {
      left = refl;
      same = search rules;
      sums = numbers-with w t at.0 at.1 number ∙ ap (λ n. with_cell (numbers w t) at.0 at.1 n) c.of_sum-number.ensures.number;
      heap_order = c.in_ok-push.ensures.heap_order;
      waits = waits_too w number place c.args.sum at c.of_sum-number.ensures.value c.of_position.ensures (heap_items f.heap) (heap_items c.push.new.self) c.in_ok-push.ensures.permutation;
    }
