use Rattle.std.proofs.Common.{◌≡◌, [], take, map, string_bytes, flat_map}
use Rattle.grid_view.specs.Texts.{longest}
use Rattle.grid_view.proofs.view.GridView.longest_number.Given as goal

abbrev pub invariant-loop-row : goal.invariant-loop-row
invariant-loop-row g l = record {
  text : string_bytes l.text ≡ [];
  longest : l.longest ≡ longest (flat_map (λ row. map g.T.Whole.whole row) (take l.row l.self.rows));
}
