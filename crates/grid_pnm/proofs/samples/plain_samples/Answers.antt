-- One sample more, or the first fault.
use Rattle.std.proofs.Common.{inr, ◌<◌, ◌≡◌, ◌++◌, ◌∷◌, [], length, arith, rules, ap, length-append}
use Rattle.std.proofs.lemmas.Result.{err_from_is_err_and}
use Rattle.grid_pnm.proofs.SampleLemmas.{one_more, no_more}
use Rattle.grid_pnm.proofs.samples.plain_samples.Goals as goal

pub returns-in_err-sample : goal.returns-in_err-sample
returns-in_err-sample g c =
    let some : length c.loop-rest.samples.items < c.args.count = search rules in
    let p = err_from_is_err_and c.from_residual-in_err-sample.result c.from_residual-in_err-sample.ensures.1 in
    rw (p.1, p.2) (inr (no_more _ _ _ _ _ _ some c.loop-rest.invariant.read _ c.in_err-sample.ensures))

pub loop-rest-preserved : goal.loop-rest-preserved
loop-rest-preserved g c =
    let some : length c.loop-rest.samples.items < c.args.count = search rules in
    let put : c.push.new.self.items ≡ c.loop-rest.samples.items ++ c.in_ok-sample.sample ∷ [] = search rules in
    record {
      within = omega (arith, ap length put, length-append c.loop-rest.samples.items (c.in_ok-sample.sample ∷ []));
      read = one_more _ _ _ _ _ _ some c.loop-rest.invariant.read _ _ _ c.in_ok-sample.ensures put;
    }
