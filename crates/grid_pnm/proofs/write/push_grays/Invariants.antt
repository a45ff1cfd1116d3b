-- The samples so far, before those of the cells that are left, and room for those.
use Rattle.std.proofs.Common.{◌≡◌, ◌+◌, ◌≤◌, ◌++◌, ℕ, List, length, vec_len, vec_capacity}
use Rattle.std.specs.List.{AllZip}
use Rattle.grid_pnm.specs.Writing.{AnswersCell}
use Rattle.grid_pnm.proofs.write.push_grays.Given as goal

abbrev pub invariant-loop-cell : goal.invariant-loop-cell
invariant-loop-cell g l = record {
  room : vec_len l.bytes + length l.cell-iterator ≤ vec_capacity l.bytes;
  may : (later : List ℕ) → AllZip (AnswersCell (goal.F-post g) l.write) l.cell-iterator later → (samples : List ℕ) × AllZip (AnswersCell (goal.F-post g) l.write) l.fn.row samples × (l.bytes.items ++ later ≡ l.fn.bytes.items ++ samples);
}
