use Rattle.std.proofs.Common.{◌≡◌, ◌∙◌, true, false, arith}
use Rattle.std.specs.Ordering.{is_ne}
use Rattle.grid_base.specs.Table.{row}
use Rattle.grid_images.proofs.OrderLemmas.{AreTied-next, first_decides, all_tie}
use Rattle.grid_images.proofs.order.compare_rows.Goals as goal

pub returns-then-is_ne : goal.returns-then-is_ne
returns-then-is_ne g c =
    let x = c.get_unchecked.result.now in
    let y = c.get_unchecked-in-loop-c.result.now in
    let decides : is_ne (g.T.Ord.cmp x y) ≡ true = cc in
    ◌∙◌ {b = g.T.Ord.cmp x y} c.cmp-ordering.ensures
    (first_decides g.T.Ord.cmp (row c.args.board.now.rows c.args.r) (row c.args.other.now.rows c.args.r) c.loop-c.c x y c.loop-c.invariant c.get_unchecked.ensures c.get_unchecked-in-loop-c.ensures decides)

pub loop-c-preserved : goal.loop-c-preserved
loop-c-preserved g c =
    let x = c.get_unchecked.result.now in
    let y = c.get_unchecked-in-loop-c.result.now in
    let ties : is_ne (g.T.Ord.cmp x y) ≡ false = cc in
    AreTied-next g.T.Ord.cmp c.loop-c.c (row c.args.board.now.rows c.args.r) (row c.args.other.now.rows c.args.r) x y c.loop-c.invariant c.get_unchecked.ensures c.get_unchecked-in-loop-c.ensures ties

pub returns : goal.returns
returns g c =
    let t = c.args.board.now in
    let u = c.args.other.now in
    let wide = t.table.even c.args.r c.requires.here in
    let wide_too = u.table.even c.args.r c.requires.there in
    all_tie g.T.Ord.cmp (row t.rows c.args.r) (row u.rows c.args.r) c.loop-c.c (omega (arith, wide, wide_too, c.requires.cols_here, c.requires.cols_there)) (omega (arith, wide, c.requires.cols_here, c.loop-c-test.false)) c.loop-c.invariant
