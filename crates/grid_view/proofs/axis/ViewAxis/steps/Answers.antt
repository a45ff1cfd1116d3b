use Rattle.std.proofs.Common.{◌+◌, ◌*◌, ◌/◌, ◌^◌, sym, ◌∙◌, ap}
use Rattle.grid_base.specs.Lines.{counted}
use Rattle.grid_view.proofs.StridedLemmas.{steps_back}
use Rattle.grid_view.proofs.axis.ViewAxis.steps.Goals as goal

pub returns-then-self-clause-steps : goal.returns-then-self-clause-steps
returns-then-self-clause-steps c =
    let a = c.args.self in
    let step = c.wrapping_neg.result in
    let q = (step + a.stride) / 2 ^ 64 in
    record {
      turns = q;
      at = λ k lt. steps_back a.count a.stride step k lt c.wrapping_neg.ensures ∙ ap (λ b. counted b a.count k * a.stride + k * q * 2 ^ 64) (sym c.if-self.true);
    }
