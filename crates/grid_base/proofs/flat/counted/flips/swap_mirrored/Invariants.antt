use Rattle.std.proofs.Common.{◌≡◌, ◌+◌, ◌++◌, length}
use Rattle.grid_base.proofs.Lemmas.{Turning}
use Rattle.grid_base.proofs.flat.counted.flips.swap_mirrored.Given as goal

abbrev pub invariant-loop-k : goal.invariant-loop-k
invariant-loop-k g l = record {
  run : Turning 0 (length l.fn.front + l.half) l.k (l.fn.front ++ l.fn.back) (l.front ++ l.back);
  front_len : length l.front ≡ length l.fn.front;
  back_len : length l.back ≡ length l.fn.back;
  symmetry : l.swaps.for_symmetry ≡ l.k;
  shift : l.swaps.for_shift ≡ 0;
}
