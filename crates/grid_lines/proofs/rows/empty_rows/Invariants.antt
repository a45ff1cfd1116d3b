-- The vectors so far are empty, and have room.
use Rattle.std.proofs.Common.{◌≡◌, ◌≤◌, vec_len, vec_capacity, All}
use Rattle.grid_lines.specs.Copied.{IsRoomFor}
use Rattle.grid_lines.proofs.rows.empty_rows.Given as goal

abbrev pub invariant-loop : goal.invariant-loop
invariant-loop g l = record {
  len : vec_len l.rows ≡ l.counter;
  room : l.count ≤ vec_capacity l.rows;
  each : All (IsRoomFor l.cols) l.rows.items;
}
