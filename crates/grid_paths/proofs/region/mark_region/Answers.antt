use Rattle.std.proofs.Common.{◌≡◌, rules, ◌∙◌, ap}
use Rattle.grid_paths.proofs.Common.{same_grid_value, undone}
use Rattle.grid_paths.proofs.region.mark_region.Goals as goal

pub returns-in-Err-clause-err : goal.returns-in-Err-clause-err
returns-in-Err-clause-err g c =
    let kept = c.in-Err.ensures.kept in
    let rows = c.put_back.ensures.rows ∙ (kept.saves ∙ ap (λ q. undone q c.args.grid.now.rows) c.new-taken.ensures.items) in
    let back : c.put_back.new.grid ≡ c.args.grid.now = same_grid_value c.put_back.new.grid c.args.grid.now rows (c.put_back.ensures.same.order ∙ kept.same.order) in
    search rules
