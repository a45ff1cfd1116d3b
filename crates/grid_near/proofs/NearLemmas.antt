-- The cells around a cell are cells of the table, at their positions.
use Rattle.std.proofs.Common.{◌≡◌, ℕ, zero, suc, ◌<◌, ◌&&◌, Bool, true, false, cond, nat_lt, Option, Some, None, List, [], ◌∷◌, length, refl, subst, sym, arith, filter_map, slice_index_or, option_map, option_and_then}
use Rattle.grid_base.proofs.Common.{IsTable, IsCellAt, GivesCells}
use Rattle.grid_base.proofs.TableLemmas.{cell_in_range}
use Rattle.grid_near.proofs.Common.{cons_option, row_count, col_count, cell, both, cell_at, neighbors4, neighbors8, wrapped_neighbors4, wrapped_neighbors8, around_of}
use Rattle.grid_near.specs.Around.{positions}
use Rattle.grid_near.specs.declared.steps.Connectivity.{Connectivity}
use Rattle.grid_near.specs.declared.steps.Connectivity.TheVariants.{Four, Eight}
use Rattle.grid_near.specs.declared.board.Edges.{Edges}
use Rattle.grid_near.specs.declared.board.Edges.TheVariants.{Open, Joined}
use Rattle.grid_near.proofs.GivenLemmas.{gives_cells_of}

module _ {X Y : Type 0} (P : Y → Type 0) (f : X → Option Y) (found : (x : X) (y : Y) → f x ≡ Some y → P y) where
  one_more : (o : Option Y) (rest : List Y) → ((y : Y) → o ≡ Some y → P y) → ((k : ℕ) (y : Y) → k < length rest → y ≡ slice_index_or rest k y → P y) → (k : ℕ) (y : Y) → k < length (cons_option o rest) → y ≡ slice_index_or (cons_option o rest) k y → P y
  one_more None rest h all k y lt is = all k y lt is
  one_more (Some z) rest h all zero y lt is = subst P (sym is) (h z refl)
  one_more (Some z) rest h all (suc k) y lt is = all k y (omega arith) is

  -- each item that f finds
  each_found : (xs : List X) (k : ℕ) (y : Y) → k < length (filter_map f xs) → y ≡ slice_index_or (filter_map f xs) k y → P y
  each_found [] k y lt is = absurd (omega arith)
  each_found (x ∷ xs) k y lt is = one_more (f x) (filter_map f xs) (found x) (each_found xs) k y lt is

module _ {T : Type 0} (t : List (List T)) (h : IsTable t) where
  cell_there : (p : Option ℕ × Option ℕ) (x : (ℕ × ℕ) × T) → cell_at (cell t) p ≡ Some x → IsCellAt t x.0 x.1
  cell_there p x e = by_position (both p) e
    where
      by_cell : (q : ℕ × ℕ) (o : Option T) → cell t q.0 q.1 ≡ o → option_map {U = (ℕ × ℕ) × T} (λ y. (q, y)) o ≡ Some x → IsCellAt t x.0 x.1
      by_cell q None k e = absurd (cc)
      by_cell q (Some y) k e =
          let same : ◌≡◌ {A = (ℕ × ℕ) × T} (q, y) x = cc in
          let here : IsCellAt t q y = (cell_in_range t h q.0 q.1 y k, k) in
          subst (λ (z : (ℕ × ℕ) × T). IsCellAt t z.0 z.1) same here

      by_position : (o : Option (ℕ × ℕ)) → option_and_then {U = (ℕ × ℕ) × T} (λ q. option_map (λ y. (q, y)) (cell t q.0 q.1)) o ≡ Some x → IsCellAt t x.0 x.1
      by_position None e = absurd (cc)
      by_position (Some q) e = by_cell q (cell t q.0 q.1) refl e

  each_there : (ps : List (Option ℕ × Option ℕ)) (k : ℕ) (x : (ℕ × ℕ) × T) → k < length (filter_map (cell_at (cell t)) ps) → x ≡ slice_index_or (filter_map (cell_at (cell t)) ps) k x → IsCellAt t x.0 x.1
  each_there ps = each_found (λ x. IsCellAt t x.0 x.1) (cell_at (cell t)) cell_there ps

  gives_from : (ps : List (Option ℕ × Option ℕ)) (s : List ((ℕ × ℕ) × T)) → s ≡ filter_map (cell_at (cell t)) ps → GivesCells t s
  gives_from ps s is = gives_cells_of t (filter_map (cell_at (cell t)) ps) (each_there ps) s is

  gives_if : (b : Bool) (ps : List (Option ℕ × Option ℕ)) (s : List ((ℕ × ℕ) × T)) → s ≡ cond b (filter_map (cell_at (cell t)) ps) [] → GivesCells t s
  gives_if true ps s is = gives_from ps s is
  gives_if false ps s is = gives_from [] s is

  -- by the connectivity, and by what the edges do
  pub gives_around : (r c : ℕ) (s : List ((ℕ × ℕ) × T)) (connectivity : Connectivity) (e : Edges) → s ≡ around_of connectivity e t r c → GivesCells t s
  unfolding neighbors4 neighbors8 wrapped_neighbors4 wrapped_neighbors8
  gives_around r c s Four Open is = gives_from (positions Open (row_count t, col_count t) Four (r, c)) s is
  gives_around r c s Eight Open is = gives_from (positions Open (row_count t, col_count t) Eight (r, c)) s is
  gives_around r c s Four Joined is = gives_if (nat_lt r (row_count t) && nat_lt c (col_count t)) (positions Joined (row_count t, col_count t) Four (r, c)) s is
  gives_around r c s Eight Joined is = gives_if (nat_lt r (row_count t) && nat_lt c (col_count t)) (positions Joined (row_count t, col_count t) Eight (r, c)) s is
