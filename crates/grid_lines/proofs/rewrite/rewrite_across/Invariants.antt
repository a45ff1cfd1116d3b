-- The rows before this one are rewritten, and those ahead are as they were.
use Rattle.std.proofs.Common.{length}
use Rattle.grid_base.proofs.Common.{CalledAtMut, HoldsSize, table_of}
use Rattle.grid_base.specs.declared.order.Order.TheVariants.{ColumnMajor}
use Rattle.grid_lines.proofs.RewriteLemmas.{Rewriting}
use Rattle.grid_lines.proofs.rewrite.rewrite_across.Given as goal

abbrev pub invariant-loop-row : goal.invariant-loop-row
invariant-loop-row g l = record {
  callable : goal.F-IsAlwaysCallable g l.f;
  size : HoldsSize l.rows l.cols (length l.cells);
  rewriting : Rewriting (λ p x y q. CalledAtMut g.F.FnMut p x tt q y) l.fn.f (table_of ColumnMajor l.rows l.cols l.fn.cells) l.row l.f (table_of ColumnMajor l.rows l.cols l.cells);
}
