use Rattle.std.proofs.Common.{◌≡◌, ℕ, ◌*◌, ◌≤◌, ap, ◌∙◌, subst, arith}
use Rattle.grid_paths.proofs.Common.{IsMarked, IsScanned}
use Rattle.grid_paths.proofs.Lemmas.{unreached_cells, none_marked, IsScanned-start, IsScanned-row}
use Rattle.grid_base.specs.Table.{row_count, col_count}
use Rattle.grid_paths.proofs.numbered.number_all.Goals as goal

pub loop-row-init : goal.loop-row-init
loop-row-init g c =
    let t = c.args.grid.now in
    let u = c.in_ok-bfs.bfs.numbers in
    let blank = c.in_ok-bfs.ensures in
    let none : (a : ℕ × ℕ) (m : ℕ) → IsMarked u.rows a m → ⊥ = λ a m w.
    none_marked (row_count t.rows) (col_count t.rows) a m (subst (λ x. IsMarked x a m) blank.none w) in
    let few = unreached_cells u.rows u.table in
    let size : row_count u.rows * col_count u.rows ≡ row_count t.rows * col_count t.rows = ap (λ n. n * col_count u.rows) blank.size.rows ∙ ap (λ n. row_count t.rows * n) blank.size.cols in
    let cells = t.fits.cells in
    record {
      counting = record {
        order = blank.order;
        size = blank.size;
        scanned = IsScanned-start c.args.connectivity g.T.PartialEq.eq t.rows u.rows none;
        room = omega arith;
      };
      end = c.rows-row-end.ensures.rows;
    }

pub loop-col-init : goal.loop-col-init
loop-col-init g c = record { counting = c.loop-row.invariant.counting; end = c.cols-col-end.ensures.cols }

pub loop-row-preserved : goal.loop-row-preserved
loop-row-preserved g c =
    let t = c.args.grid.now.rows in
    let l = c.loop-col in
    let counting = l.invariant.counting in
    let end = l.invariant.end in
    let past : c.cols-col-end.result ≤ l.col = c.loop-col-test.false in
    let le : col_count t ≤ l.col = omega arith in
    record {
      counting = record {
        order = counting.order;
        size = counting.size;
        scanned = IsScanned-row c.args.connectivity g.T.PartialEq.eq t l.bfs.numbers.rows l.count c.loop-row.row l.col le counting.scanned;
        room = counting.room;
      };
      end = c.loop-row.invariant.end;
    }

pub returns-clause-scanned : goal.returns-clause-scanned
returns-clause-scanned g c =
    let t = c.args.grid.now.rows in
    let l = c.loop-row in
    let end = l.invariant.end in
    let below = l.auto.row-end in
    let past : c.rows-row-end.result ≤ l.row = c.loop-row-test.false in
    let is : l.row ≡ row_count t = omega arith in
    subst (λ r. IsScanned c.args.connectivity g.T.PartialEq.eq t l.bfs.numbers.rows l.count (r, 0)) is l.invariant.counting.scanned
