-- The cells so far are cloned.
use Rattle.std.proofs.Common.{◌≡◌, ◌≤◌, ◌+◌, ◌++◌, List, length, vec_len, vec_capacity}
use Rattle.grid_base.proofs.Common.{AllZip}
use Rattle.grid_base.proofs.flat.line_iter.clones_of_line.Given as goal

pub record Cloned {X : Type 0} (is_clone : X → X → Type 0) (line rest copies : List X) : Type 0 where
  pub front : List X
  pub whole : front ++ rest ≡ line
  pub each : AllZip is_clone front copies

abbrev pub invariant-loop-cell : goal.invariant-loop-cell
invariant-loop-cell g l = record {
  can : (goal.iterator-loop-cell g).can_next l.cell-iterator;
  finite : (goal.iterator-loop-cell g).is_finite l.cell-iterator;
  copies : Cloned g.T.Clone.is_clone l.fn.line l.cell-iterator l.copies.items;
  room : vec_len l.copies + length l.cell-iterator ≤ vec_capacity l.copies;
}
