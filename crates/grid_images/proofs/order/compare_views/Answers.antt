use Rattle.std.proofs.Common.{◌≡◌, ◌∙◌, ◌<◌, true, false, sym, ap, arith}
use Rattle.std.specs.Cmp.Lexicographic.{slice_cmp}
use Rattle.std.specs.Ordering.{is_eq, is_ne, ordering_then, nat_cmp}
use Rattle.grid_base.specs.Table.{row, row_count, col_count}
use Rattle.grid_view.proofs.SameLemmas.{row_at}
use Rattle.grid_images.proofs.OrderLemmas.{AreTied-next, table_cmp_total, tables_tie, by_size, one_size, by_rows, first_decides, all_tie}
use Rattle.grid_images.proofs.order.compare_views.Goals as goal

pub returns-then-is_ne-clause-ordering : goal.returns-then-is_ne-clause-ordering
returns-then-is_ne-clause-ordering g c =
    by_size g.T.Ord.cmp c.args.board.now.rows c.args.other.now.rows c.cmp-sizes.result
    (c.cmp-sizes.ensures ∙ (λ i. ordering_then (nat_cmp (c.size.ensures.rows i) (c.size-2.ensures.rows i)) (nat_cmp (c.size.ensures.cols i) (c.size-2.ensures.cols i))))
    (cc)

pub returns-then-is_ne-clause-total : goal.returns-then-is_ne-clause-total
returns-then-is_ne-clause-total g c = table_cmp_total g.T.Ord.cmp g.met.T.Ord.total

pub returns-then-is_ne-2-clause-ordering : goal.returns-then-is_ne-2-clause-ordering
returns-then-is_ne-2-clause-ordering g c =
    let t = c.args.board.now.rows in
    let u = c.args.other.now.rows in
    let r = c.loop-r.r in
    let sizes = one_size c.size.result.0 c.size.result.1 c.size-2.result.0 c.size-2.result.1 c.cmp-sizes.result c.cmp-sizes.ensures (cc) in
    let rows : row_count t ≡ row_count u = sym c.size.ensures.rows ∙ (sizes.0 ∙ c.size-2.ensures.rows) in
    let cols : col_count t ≡ col_count u = sym c.size.ensures.cols ∙ (sizes.1 ∙ c.size-2.ensures.cols) in
    let lt : r < row_count t = omega (arith, c.loop-r-test.true, c.size-rows.ensures.rows) in
    let decides : is_ne (slice_cmp g.T.Ord.cmp (row t r) (row u r)) ≡ true = cc in
    ◌∙◌ {b = slice_cmp g.T.Ord.cmp (row t r) (row u r)} c.compare_rows-ordering.ensures
    (first_decides (slice_cmp g.T.Ord.cmp) t u r (row t r) (row u r) c.loop-r.invariant (row_at t r lt) (row_at u r (omega (arith, lt, rows))) decides
    ∙ sym (by_rows g.T.Ord.cmp t u rows cols))

pub returns-then-is_ne-2-clause-equal : goal.returns-then-is_ne-2-clause-equal
returns-then-is_ne-2-clause-equal g c =
    ap is_eq (returns-then-is_ne-2-clause-ordering g c) ∙ tables_tie g.T.Ord.cmp g.T.PartialEq.eq g.met.T.Ord.matches_eq c.args.board.now.rows c.args.other.now.rows

pub returns-then-is_ne-2-clause-total : goal.returns-then-is_ne-2-clause-total
returns-then-is_ne-2-clause-total g c = table_cmp_total g.T.Ord.cmp g.met.T.Ord.total

pub loop-r-preserved : goal.loop-r-preserved
loop-r-preserved g c =
    let t = c.args.board.now.rows in
    let u = c.args.other.now.rows in
    let r = c.loop-r.r in
    let sizes = one_size c.size.result.0 c.size.result.1 c.size-2.result.0 c.size-2.result.1 c.cmp-sizes.result c.cmp-sizes.ensures (cc) in
    let lt : r < row_count t = omega (arith, c.loop-r-test.true, c.size-rows.ensures.rows) in
    let lt_too : r < row_count u = omega (arith, lt, sizes.0, c.size.ensures.rows, c.size-2.ensures.rows) in
    let ties : is_ne (slice_cmp g.T.Ord.cmp (row t r) (row u r)) ≡ false = cc in
    AreTied-next (slice_cmp g.T.Ord.cmp) r t u (row t r) (row u r) c.loop-r.invariant (row_at t r lt) (row_at u r lt_too) ties

pub returns-clause-ordering : goal.returns-clause-ordering
returns-clause-ordering g c =
    let t = c.args.board.now.rows in
    let u = c.args.other.now.rows in
    let sizes = one_size c.size.result.0 c.size.result.1 c.size-2.result.0 c.size-2.result.1 c.cmp-sizes.result c.cmp-sizes.ensures (cc) in
    let rows : row_count t ≡ row_count u = sym c.size.ensures.rows ∙ (sizes.0 ∙ c.size-2.ensures.rows) in
    let cols : col_count t ≡ col_count u = sym c.size.ensures.cols ∙ (sizes.1 ∙ c.size-2.ensures.cols) in
    all_tie (slice_cmp g.T.Ord.cmp) t u c.loop-r.r rows (omega (arith, c.loop-r-test.false, c.size-rows.ensures.rows)) c.loop-r.invariant
    ∙ sym (by_rows g.T.Ord.cmp t u rows cols)

pub returns-clause-equal : goal.returns-clause-equal
returns-clause-equal g c =
    ap is_eq (returns-clause-ordering g c) ∙ tables_tie g.T.Ord.cmp g.T.PartialEq.eq g.met.T.Ord.matches_eq c.args.board.now.rows c.args.other.now.rows

pub returns-clause-total : goal.returns-clause-total
returns-clause-total g c = table_cmp_total g.T.Ord.cmp g.met.T.Ord.total
