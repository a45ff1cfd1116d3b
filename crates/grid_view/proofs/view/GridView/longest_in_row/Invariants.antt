use Rattle.std.proofs.Common.{◌≡◌, [], take, map, string_bytes}
use Rattle.grid_view.specs.Texts.{longest}
use Rattle.grid_base.specs.Table.{row}
use Rattle.grid_view.proofs.view.GridView.longest_in_row.Given as goal

abbrev pub invariant-loop-col : goal.invariant-loop-col
invariant-loop-col g l = record {
  text : string_bytes l.text ≡ [];
  longest : l.longest ≡ longest (map g.T.Whole.whole (take l.col (row l.self.rows l.r)));
}
