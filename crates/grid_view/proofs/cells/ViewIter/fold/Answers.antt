use Rattle.std.proofs.Common.{rules, ◌++◌}
use Rattle.std.proofs.iter.runs.Consumers.{fold_runs}
use Rattle.std.specs.Iterator.{YieldsFirstRef}
use Rattle.grid_base.proofs.Common.{concat_rows}
use Rattle.grid_view.proofs.FoldLemmas.{callable_over, callable_front, callable_after, goes_over_both, goes_to}
use Rattle.grid_view.proofs.cells.ViewIter.fold.Goals as goal

pub fold_line-f-requires : goal.fold_line-f-requires
fold_line-f-requires g c κs =
    let s = c.self.inside in
    let calls = callable_over g.F.FnMut _ _ _ c.requires.callable in
    (search rules, callable_front g.F.FnMut (c.args.f, c.args.init) s.line (concat_rows s.rows ++ s.last) (rw c.self.view_is calls))

pub fold_cells-f-requires : goal.fold_cells-f-requires
fold_cells-f-requires g c κs =
    let s = c.self.inside in
    let calls = callable_over g.F.FnMut _ _ _ c.requires.callable in
    let others = callable_after g.F.FnMut (c.args.f, c.args.init) s.line (concat_rows s.rows ++ s.last) c.fold_line-f.result c.fold_line-f.ensures (rw c.self.view_is calls) in
    (search rules, callable_front g.F.FnMut c.fold_line-f.result (concat_rows s.rows) s.last others)

pub fold_line-requires : goal.fold_line-requires
fold_line-requires g c κs =
    let s = c.self.inside in
    let calls = callable_over g.F.FnMut _ _ _ c.requires.callable in
    let others = callable_after g.F.FnMut (c.args.f, c.args.init) s.line (concat_rows s.rows ++ s.last) c.fold_line-f.result c.fold_line-f.ensures (rw c.self.view_is calls) in
    (search rules, callable_after g.F.FnMut c.fold_line-f.result (concat_rows s.rows) s.last c.fold_cells-f.result c.fold_cells-f.ensures others)

pub returns-clause-ran : goal.returns-clause-ran
returns-clause-ran g c =
    let s = c.self.inside in
    let others = goes_over_both g.F.FnMut c.fold_line-f.result (concat_rows s.rows) c.fold_cells-f.result s.last c.fold_line.result c.fold_cells-f.ensures c.fold_line.ensures in
    let over = goes_over_both g.F.FnMut (c.args.f, c.args.init) s.line c.fold_line-f.result (concat_rows s.rows ++ s.last) c.fold_line.result c.fold_line-f.ensures others in
    let all = goes_to g.F.FnMut _ _ _ over in
    (all.0, c.fold_line.result.0, rw (← c.self.view_is) all.1, all.2)

pub returns-clause-runs : goal.returns-clause-runs
returns-clause-runs g c = fold_runs (YieldsFirstRef (λ s. s)) c.args.self g.F.FnMut c.args.f c.args.init c.fold_line.result.1 (returns-clause-ran g c)
