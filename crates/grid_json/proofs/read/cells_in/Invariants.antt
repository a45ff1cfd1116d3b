use Rattle.std.proofs.Common.{◌≡◌, ◌++◌, map, drop, Ok}
use Rattle.grid_json.proofs.Common.{view, items_of, items_view, and_then, cells_from}
use Rattle.grid_json.proofs.read.cells_in.Given as goal

abbrev pub invariant-loop-index : goal.invariant-loop-index
invariant-loop-index g l =
    cells_from g.T.Cell.read 0 (items_view l.items.items) ≡ and_then (cells_from g.T.Cell.read l.index (items_of (map view (drop l.index l.items.items)))) (λ rest. Ok (map g.T.Cell.content l.cells.items ++ rest))
