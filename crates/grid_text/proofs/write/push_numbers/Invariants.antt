-- The numbers so far, before those that are left, each after a space.
use Rattle.std.proofs.Common.{◌≡◌, ◌++◌, ◌∷◌, map, flat_map, string_bytes}
use Rattle.std.specs.Fmt.{signed_decimal}
use Rattle.grid_text.proofs.Common.{line_of_numbers}
use Rattle.grid_text.proofs.write.push_numbers.Given as goal

abbrev pub invariant-loop-cell : goal.invariant-loop-cell
invariant-loop-cell g l =
    string_bytes l.text ++ flat_map (λ z. 32 ∷ signed_decimal z) (map g.T.Whole.whole l.cell-iterator) ≡ string_bytes l.fn.text ++ line_of_numbers (map g.T.Whole.whole l.fn.row)
