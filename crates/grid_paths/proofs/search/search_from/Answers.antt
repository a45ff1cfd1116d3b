use Rattle.std.proofs.Common.{◌≡◌, Ok, ℕ, ◌<◌, ◌+◌, ◌*◌, Option, Some, length, [], ◌∷◌, ◌++◌, Contains, refl, sym, ◌∙◌, ap, subst, arith, rules, length-append}
use Rattle.grid_paths.proofs.Common.{row_count, col_count, WentAround, HasLeastFrom, IsMarked, cell_in_range}
use Rattle.grid_paths.proofs.Lemmas.{in_range_as, IsSearch, HasLeastSteps-one, IsSettled-end, IsSettled-found, IsTrimmed-start, IsTrimmed-round, IsTrimmed-trim, next_at, HasLeastFrom-trimmed, unreached_cells, none_marked, IsSearch-start, start_reached, IsLeft-blank, Reaches-each}
use Rattle.grid_paths.proofs.search.search_from.Goals as goal

pub visit_each-requires : goal.visit_each-requires
visit_each-requires g c = (c.args.mask.rows, IsLeft-blank c.args.mask c.in_ok-steps.steps c.in_ok-steps.ensures)

pub loop-next-init : goal.loop-next-init
loop-next-init g c =
    let mask = c.args.mask in
    let starts = c.args.starts.now in
    let w = c.in_ok-steps.steps in
    let blank = c.in_ok-steps.ensures in
    let none : (a : ℕ × ℕ) (m : ℕ) → IsMarked w.numbers.rows a m → ⊥ = λ a m h.
    none_marked (row_count mask.rows) (col_count mask.rows) a m (subst (λ x. IsMarked x a m) blank.none h) in
    let new = c.visit_each.new.search in
    let u = new.steps.numbers.rows in
    let q = new.steps.queue.items in
    let r = Reaches-each 0 starts (Ok tt) (record { left = mask; steps = w }) new c.in_ok-visit_each.ensures mask.rows (IsLeft-blank mask w blank) in
    let same = r.0.same in
    let total = r.0.round.spread.total in
    let few = unreached_cells w.numbers.rows w.numbers.table in
    let size : row_count w.numbers.rows * col_count w.numbers.rows ≡ row_count mask.rows * col_count mask.rows = ap (λ n. n * col_count w.numbers.rows) blank.size.rows ∙ ap (λ n. row_count mask.rows * n) blank.size.cols in
    let nothing : length w.queue.items ≡ 0 = ap length blank.queue in
    let round = subst (λ q0. WentAround (λ a. Contains starts a) mask.rows 0 w.numbers.rows q0 u q) blank.queue r.0.round in
    record {
      size = record { rows = same.rows ∙ blank.size.rows; cols = same.cols ∙ blank.size.cols };
      order = same.order ∙ blank.order;
      left = r.1;
      search = IsTrimmed-start u q (IsSearch-start c.args.connectivity mask.rows starts w.numbers.rows none u q round) (omega arith);
      start = start_reached c.args.connectivity mask.rows starts w.numbers.rows none u q round;
    }

pub reach_around-requires : goal.reach_around-requires
reach_around-requires g c =
    let l = c.loop-next in
    let w = l.search.steps in
    let a = c.index-at.result.now in
    let v = next_at l.invariant.search a (omega (arith, w.queue.ok.0)) c.index-at.ensures in
    let u = w.numbers in
    let left = l.invariant.left in
    let rows : row_count l.search.left.rows ≡ row_count u.rows = left.size.rows ∙ sym l.invariant.size.rows in
    let cols : col_count l.search.left.rows ≡ col_count u.rows = left.size.cols ∙ sym l.invariant.size.cols in
    let low = v.1.2 in
    let few = c.args.mask.fits.cells in
    record {
      inside = in_range_as u.rows l.search.left.rows rows cols a (cell_in_range u.rows u.table a.0 a.1 (Some v.1.0) v.1.1);
      left = (c.args.mask.rows, left);
      marked = (v.1.0, v.1.1, omega arith);
    }

pub trim-next-requires : goal.trim-next-requires
trim-next-requires g c =
    let l = c.loop-next in
    let lt : l.next < length l.search.steps.queue.items = omega (arith, l.search.steps.queue.ok.0) in
    let v = next_at l.invariant.search c.index-at.result.now lt c.index-at.ensures in
    let longer = (c.in_ok-reach_around.ensures v.1.0 v.1.1 c.args.mask.rows l.invariant.left).0.round.spread.longer in
    omega arith

pub loop-next-preserved : goal.loop-next-preserved
loop-next-preserved g c =
    let l = c.loop-next in
    let a = c.index-at.result.now in
    let v = next_at l.invariant.search a (omega (arith, l.search.steps.queue.ok.0)) c.index-at.ensures in
    let both = c.in_ok-reach_around.ensures v.1.0 v.1.1 c.args.mask.rows l.invariant.left in
    let new = c.reach_around.new.self.steps in
    let same = both.0.same in
    record {
      size = record { rows = same.rows ∙ l.invariant.size.rows; cols = same.cols ∙ l.invariant.size.cols };
      left = both.1;
      order = same.order ∙ l.invariant.order;
      search = IsTrimmed-trim (IsTrimmed-round l.invariant.search new.numbers.rows new.queue.items a v.1.0 v.0 v.1.1 both.0.round)
          c.trim-next.new.queue.items c.trim-next.result c.trim-next.ensures;
      start = λ from is is_open. both.0.round.spread.kept from 0 (l.invariant.start from is is_open);
    }

pub returns-clause-least : goal.returns-clause-least
returns-clause-least g c =
    λ none.
    let l = c.loop-next in
    HasLeastFrom-trimmed l.invariant.search l.invariant.start (omega (arith, l.search.steps.queue.ok.0))

pub returns-clause-settled : goal.returns-clause-settled
returns-clause-settled g c =
    λ from to one is.
    let l = c.loop-next in
    let u = l.search.steps.numbers.rows in
    let mask = c.args.mask.rows in
    let least = HasLeastFrom-trimmed l.invariant.search l.invariant.start (omega (arith, l.search.steps.queue.ok.0)) in
    IsSettled-end c.args.connectivity mask from u
    (HasLeastSteps-one c.args.connectivity mask from u (subst (λ x. HasLeastFrom c.args.connectivity mask x u) one least)) to

pub returns-then-eq-clause-settled : goal.returns-then-eq-clause-settled
returns-then-eq-clause-settled g c =
    λ from to one is.
    let mask = c.args.mask.rows in
    let l = c.loop-next in
    let w = l.search.steps in
    let u = w.numbers.rows in
    let a = c.index-at.result.now in
    let v = next_at l.invariant.search a (omega (arith, w.queue.ok.0)) c.index-at.ensures in
    let here : c.args.goal ≡ Some a = search rules in
    let both : ◌≡◌ {A = Option (ℕ × ℕ)} (Some a) (Some to) = sym here ∙ is in
    let same : a ≡ to = cc in
    let mark : IsMarked u to v.1.0 = subst (λ x. IsMarked u x v.1.0) same v.1.1 in
    let t = l.invariant.search in
    let search : IsSearch c.args.connectivity mask (from ∷ []) u (t.front ++ w.queue.items) (length t.front + l.next) = subst (λ x. IsSearch c.args.connectivity mask x u (t.front ++ w.queue.items) (length t.front + l.next)) one t.search in
    let first : Contains c.args.starts.now from = subst (λ x. Contains x from) (sym one) (0, omega arith, refl) in
    IsSettled-found c.args.connectivity mask from u (t.front ++ w.queue.items) (length t.front + l.next) search (λ o. l.invariant.start from first o) to v.1.0 mark

pub loop-next-smaller : goal.loop-next-smaller
loop-next-smaller g c =
    let l = c.loop-next in
    let lt : l.next < length l.search.steps.queue.items = omega (arith, l.search.steps.queue.ok.0) in
    let v = next_at l.invariant.search c.index-at.result.now lt c.index-at.ensures in
    let trimmed = c.trim-next.ensures in
    let long = ap length trimmed.1 ∙ length-append trimmed.0 c.trim-next.new.queue.items in
    let next_is = trimmed.2 in
    let total = (c.in_ok-reach_around.ensures v.1.0 v.1.1 c.args.mask.rows l.invariant.left).0.round.spread.total in
    omega arith
