-- The samples of the cells so far, and room for those of the others.
use Rattle.std.proofs.Common.{◌≡◌, ◌+◌, ◌-◌, ◌≤◌, ◌++◌, ℕ, List, take, length, vec_len, vec_capacity}
use Rattle.std.specs.List.{AllZip}
use Rattle.grid_pnm.specs.Writing.{AnswersCell}
use Rattle.grid_pnm.proofs.write.push_all.Given as goal

abbrev pub invariant-loop-cell : goal.invariant-loop-cell
invariant-loop-cell g l = record {
  room : vec_len l.bytes + (length l.cells - l.cell-index) ≤ vec_capacity l.bytes;
  may : (samples : List ℕ) × AllZip (AnswersCell (goal.F-post g) l.write) (take l.cell-index l.cells) samples × (l.bytes.items ≡ l.fn.bytes.items ++ samples);
}
