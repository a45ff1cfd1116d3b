-- Iterators over cells with their positions give what they have left.
use Rattle.std.proofs.Common.{◌≡◌, ◌≤◌, ◌<◌, ℕ, suc, min, drop, Option, None, Some, List, [], ◌∷◌, length, length-drop, map, sym, ◌∙◌, ap, arith, filter_map, Bor}
use Rattle.grid_near.proofs.Common.{⊤, cons_option, YieldsFirstBy, MakesProgress, at_most, min-eq_left, min-le_left, from_front, map-map, step_count, placed, cell_at, CellsInOrder, PositionsInOrder, positions, cells_from}
use Rattle.grid_near.specs.declared.steps.Connectivity.{Connectivity}
use Rattle.grid_near.specs.declared.steps.Connectivity.TheVariants.{Four, Eight}
use Rattle.grid_near.specs.declared.board.Edges.{Edges}

pub cells_in_order : (T : Type 0) → CellsInOrder T
cells_in_order T = from_front (YieldsFirstBy placed (λ (rest : List ((ℕ × ℕ) × T)). rest)) placed (λ rest. rest) (λ s t h. ap length h.0) (λ s x t h. h)

pub positions_in_order : (T : Type 0) → PositionsInOrder T
positions_in_order T p s w = sym (map-map (λ n. n.0) placed p.items) ∙ ap (map (λ n. n.0)) ((cells_in_order T p s).4 w)

length-cons : {Y : Type 0} (o : Option Y) (ys : List Y) → length (cons_option o ys) ≤ suc (length ys)
length-cons None ys = omega arith
length-cons (Some y) ys = omega arith

module _ {X Y : Type 0} where
  length-filter_map : (f : X → Option Y) (xs : List X) → length (filter_map f xs) ≤ length xs
  length-filter_map f [] = omega arith
  length-filter_map f (x ∷ xs) = omega (arith, length-cons (f x) (filter_map f xs), length-filter_map f xs)

-- what is left of an iterator: at most as many cells as steps, one fewer after each
pub few_from : {T : Type 0} (f : ℕ → ℕ → Option T) (e : Edges) (size : ℕ × ℕ) (connectivity : Connectivity) (at : ℕ × ℕ) (k : ℕ) → length (cells_from f e size connectivity at k) ≤ step_count connectivity
few_from f e size Four at k = omega (arith, length-filter_map (cell_at f) (drop k (positions e size Four at)), length-drop k (positions e size Four at))
few_from f e size Eight at k = omega (arith, length-filter_map (cell_at f) (drop k (positions e size Eight at)), length-drop k (positions e size Eight at))

pub few_left : {T : Type 0} (f : ℕ → ℕ → Option T) (e : Edges) (size : ℕ × ℕ) (connectivity : Connectivity) (at : ℕ × ℕ) (k : ℕ) (seen : List ((ℕ × ℕ) × T)) → cells_from f e size connectivity at k ≡ seen → length seen ≤ 8
few_left f e size Four at k seen is = omega (arith, few_from f e size Four at k, ap length is)
few_left f e size Eight at k seen is = omega (arith, few_from f e size Eight at k, ap length is)

pub goes_on : {T : Type 0} (s t : List ((ℕ × ℕ) × T)) (r : Option ((ℕ × ℕ) × Bor T)) → length s ≤ 8 → YieldsFirstBy placed (λ (rest : List ((ℕ × ℕ) × T)). rest) s r t → MakesProgress (λ _. ⊤) (λ (rest : List ((ℕ × ℕ) × T)). at_most (min (length rest) 8)) s r t
goes_on s t None few gave = record { on = λ _. tt; keeps = tt; rests = λ _. tt }
goes_on s t (Some x) few gave = record { on = λ _. (tt, tt, less); keeps = tt; rests = λ _. tt }
  where
    less : min (length t) 8 < min (length s) 8
    less = let one : length s ≡ suc (length t) = ap length gave in omega (arith, one, few, min-eq_left {n = length s} few, min-le_left (length t) 8)
