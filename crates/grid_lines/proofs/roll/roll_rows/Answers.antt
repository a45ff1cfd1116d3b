-- Two parts that are reversed, and then both as one.
use Rattle.std.proofs.Common.{◌≡◌, ◌+◌, ◌-◌, length, subst, arith}
use Rattle.grid_base.specs.Blocks.{PartReversed}
use Rattle.grid_base.proofs.PartLemmas.{exchanged_by_reversals}
use Rattle.grid_lines.proofs.RollLemmas.{rolled}
use Rattle.grid_lines.proofs.roll.roll_rows.Goals as goal

pub returns-then-count-rows-clause-rows : goal.returns-then-count-rows-clause-rows
returns-then-count-rows-clause-rows g c =
    let m = c.args.count in
    let n = c.rows-rows.result - c.args.count in
    let whole : c.rows-rows.result ≡ m + n = omega arith in
    let sum : m + n ≡ length c.args.grid.now.rows = omega arith in
    let all = c.reverse_rows-then-count-rows-2.ensures.rows in
    let both : PartReversed 0 (m + n) c.reverse_rows-then-count-rows.new.grid.rows c.reverse_rows-then-count-rows-2.new.grid.rows =
    subst (λ k. PartReversed 0 k c.reverse_rows-then-count-rows.new.grid.rows c.reverse_rows-then-count-rows-2.new.grid.rows) whole all in
    let second : PartReversed (0 + m) n c.reverse_rows.new.grid.rows c.reverse_rows-then-count-rows.new.grid.rows =
    subst (λ k. PartReversed k n c.reverse_rows.new.grid.rows c.reverse_rows-then-count-rows.new.grid.rows) (omega arith) c.reverse_rows-then-count-rows.ensures.rows in
    rolled m n _ _ sum (exchanged_by_reversals 0 m n _ _ _ _ c.reverse_rows.ensures.rows second both)
