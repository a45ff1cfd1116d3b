-- The rows so far are cloned.
use Rattle.std.proofs.Common.{◌≡◌, ◌≤◌, map, take, vec_len, vec_capacity}
use Rattle.std.specs.List.{AllZip}
use Rattle.grid_lines.proofs.rows.copied_rows.Given as goal

abbrev pub invariant-loop-r : goal.invariant-loop-r
invariant-loop-r g l = record {
  copies : AllZip (AllZip g.T.Clone.is_clone) (take l.r l.view.rows) (map (λ row. row.items) l.rows.items);
  len : vec_len l.rows ≡ l.r;
  room : l.count ≤ vec_capacity l.rows;
}
