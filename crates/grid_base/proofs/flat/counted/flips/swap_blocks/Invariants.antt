use Rattle.std.proofs.Common.{◌≡◌, ◌++◌, length}
use Rattle.grid_base.proofs.Common.{BlocksSwapped}
use Rattle.grid_base.proofs.flat.counted.flips.swap_blocks.Given as goal

abbrev pub invariant-loop-k : goal.invariant-loop-k
invariant-loop-k g l = record {
  run : BlocksSwapped 0 (length l.fn.front) l.k (l.fn.front ++ l.fn.back) (l.front ++ l.back);
  front_len : length l.front ≡ length l.fn.front;
  back_len : length l.back ≡ length l.fn.back;
  symmetry : l.swaps.for_symmetry ≡ l.k;
  shift : l.swaps.for_shift ≡ 0;
}
