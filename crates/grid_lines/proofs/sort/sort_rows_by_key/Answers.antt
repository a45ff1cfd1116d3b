-- The rows of the sorted indices.
use Rattle.std.proofs.Common.{[], refl}
use Rattle.grid_base.proofs.StrideLemmas.{lines_in_order}
use Rattle.grid_lines.proofs.OrderLemmas.{shuffled}
use Rattle.grid_lines.proofs.NumberLemmas.{rising_key}
use Rattle.grid_lines.proofs.sort.sort_rows_by_key.Goals as goal

pub returns-clause-permutation : goal.returns-clause-permutation
returns-clause-permutation g c = shuffled _ _ _ [] c.in_ok-wanted.wanted.items refl c.in_ok-wanted.ensures.permutation (rw (← c.deref.ensures.value) c.in_ok-put_in_order.ensures.rows)

pub returns-clause-sorted : goal.returns-clause-sorted
returns-clause-sorted g c = λ given h. rw (c.in_ok-put_in_order.ensures.rows, c.deref.ensures.value) (c.in_ok-wanted.ensures.ordered given h).0

pub returns-clause-by_key : goal.returns-clause-by_key
returns-clause-by_key g c = λ given says. rising_key g.F.FnMut g.K.Ord.cmp c.args.key _ (returns-clause-sorted g c) given says

pub returns-clause-along : goal.returns-clause-along
returns-clause-along g c = lines_in_order _

pub returns-in_err-wanted-clause-along : goal.returns-in_err-wanted-clause-along
returns-in_err-wanted-clause-along g c = lines_in_order _

pub returns-in_err-put_in_order-clause-along : goal.returns-in_err-put_in_order-clause-along
returns-in_err-put_in_order-clause-along g c = lines_in_order _
