use Rattle.std.proofs.Common.{◌≡◌, ◌∙◌, ap, false, IsTrue, Result, Ok, Err, OnOk, OnErr}
use Rattle.grid.specs.Prelude.{cell, act}
use Rattle.grid_deferred.specs.Deferred.{shown}
use Rattle.grid_base.proofs.GroupLemmas.{act-identity}
use Rattle.grid.specs.Step as steps
use Rattle.grid_callers.proofs.shown.cell_through.Goals as goal

-- what can't fail is done
done : {X E : Type 0} (r : Result X E) (P : Type 0) → OnOk r P → OnErr r (IsTrue false) → P
done (Ok x) P p e = p
done (Err x) P p e = absurd (cc e)

pub returns-clause-cell : goal.returns-clause-cell
unfolding steps.step_rows act
returns-clause-cell g c =
    let old = c.over-deferred.ensures in
    let start : shown c.over-deferred.result ≡ c.args.grid.now.rows = rw (old.base, old.pending) (act-identity c.args.grid.now.rows c.args.grid.now.table) in
    let stepped = done c.step.result _ c.step.ensures.stepped.rows c.step.ensures.stepped.err_memory 0 tt in
    c.copied-found.ensures ∙ (c.get.ensures ∙ (ap (λ t. cell t c.args.row c.args.col) stepped ∙ ap (λ t. cell (act c.args.symmetry t) c.args.row c.args.col) start))
