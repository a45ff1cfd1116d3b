use Rattle.std.specs.Iterator.{YieldsFirstRef}
use Rattle.grid_view.proofs.FoldLemmas.{callable_in, goes_over_left}
use Rattle.grid_view.proofs.fold.fold_line.Goals as goal

pub fold_items-requires-clause-callable : goal.fold_items-requires-clause-callable
fold_items-requires-clause-callable g c = callable_in g.F.FnMut (YieldsFirstRef (λ s. s)) (λ s. s) (λ _ _ _ e. e) _ _ _ c.requires.calls

pub returns : goal.returns
returns g c = goes_over_left g.F.FnMut (YieldsFirstRef (λ s. s)) (λ s. s) (λ _ _ _ e. e) (λ _ _ e. e.0) _ _ _ c.fold_items.ensures
