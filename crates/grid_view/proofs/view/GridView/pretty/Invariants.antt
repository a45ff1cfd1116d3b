use Rattle.std.proofs.Common.{◌≡◌, ◌++◌, take, map, codes, string_bytes, flat_map}
use Rattle.grid_view.specs.Texts.{row_line}
use Rattle.grid_view.proofs.view.GridView.pretty.Given as goal

abbrev pub invariant-loop-row : goal.invariant-loop-row
invariant-loop-row g l = string_bytes l.text ≡ codes "[\n" ++ flat_map (λ row. row_line l.width (map g.T.Whole.whole row)) (take l.row l.self.rows)
