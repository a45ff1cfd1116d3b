use Rattle.std.proofs.lemmas.List.{nil_from_length}
use Rattle.std.specs.Slice.Iter.{iter_rest, iter_steps}
use Rattle.grid_view.proofs.FoldLemmas.{callable_in, goes_over_left}
use Rattle.grid_view.proofs.fold.fold_slice.Goals as goal

pub fold_items-requires-clause-callable : goal.fold_items-requires-clause-callable
fold_items-requires-clause-callable g c = callable_in g.F.FnMut iter_steps iter_rest (λ _ _ _ e. e) _ _ _ (rw c.iter.ensures.rest c.requires.calls)

pub returns : goal.returns
returns g c = rw (← c.iter.ensures.rest) (goes_over_left g.F.FnMut iter_steps iter_rest (λ _ _ _ e. e) (λ _ _ e. nil_from_length _ e.0) _ _ _ c.fold_items.ensures)
