use Rattle.std.proofs.Common.{◌≡◌, ◌++◌, take, map, codes, string_bytes}
use Rattle.grid_base.proofs.Common.{join_by, row}
use Rattle.grid_view.specs.Texts.{right_aligned}
use Rattle.grid_view.proofs.view.GridView.push_row_line.Given as goal

abbrev pub invariant-loop-col : goal.invariant-loop-col
invariant-loop-col g l =
    string_bytes l.text ≡ string_bytes l.fn.text ++ (codes "    [" ++ join_by (λ z. codes " " ++ right_aligned l.width z) (codes ",") (map g.T.Whole.whole (take l.col (row l.self.rows l.r))))
