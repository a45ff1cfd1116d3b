-- Each key of an index is asked at its row.
use Rattle.std.proofs.Common.{rules, ◌≡◌, ◌∙◌, Bool, List, [], ◌∷◌, map, length, refl, ap, subst, IsSortedBy, is_lt}
use Rattle.grid_base.proofs.Common.{answers_by, ranks_by, IsStrictWeakOrder, AlwaysReturns, IsStableBy, always_mut, mut_next, mut_by, row}
use denote.Param.Members.{Called}
use Rattle.grid_lines.proofs.OrderLemmas.{both, numbered_all, less_by, sorted_values, stable_values}
use Rattle.grid_lines.proofs.indices.sorted_indices_by_key.Goals as goal

pub sort_by_cached_key-requires : goal.sort_by_cached_key-requires
sort_by_cached_key-requires g c = mut_by _ (λ s. always_mut g.F.FnMut s.0.now) (λ s a h. search rules)
    (λ s a r t h k.
    let called : Called g.F.FnMut s.0.now (row s.1.now.rows a.0.now, tt) r t.0.now = search rules in
    mut_next g.F.FnMut _ _ _ _ _ called refl h)
    _ c.requires

pub returns-clause-ordered : goal.returns-clause-ordered
returns-clause-ordered g c = λ given h.
    let rows = c.args.grid.now.rows in
    let start = c.in_ok-indices.indices.items in
    let items = c.sort_by_cached_key.new.self.items in
    let all : map (row rows) start ≡ rows = ap (map (row rows)) c.in_ok-indices.ensures ∙ numbered_all rows (length rows) [] refl in
    let lt : List g.row.T.Denot → List g.row.T.Denot → Bool = λ x y. is_lt (g.K.Ord.cmp (given x) (given y)) in
    let o : IsStrictWeakOrder lt = ranks_by g.met.K.Ord.total given in
    let sorts : IsSortedBy (less_by (row rows) lt) items × IsStableBy (less_by (row rows) lt) start items =
    both (c.in_ok-sort_by_cached_key.ensures.sorted (λ a. given (row rows a))) (c.in_ok-sort_by_cached_key.ensures.stable (λ a. given (row rows a)))
    (answers_by _ _ (λ s. AlwaysReturns g.F.FnMut (λ a r. r ≡ given a.0) s.0.now × (s.1.now.rows ≡ rows))
    (λ s a r t k i.
    let called : Called g.F.FnMut s.0.now (row s.1.now.rows a.0.now, tt) r t.0.now = search rules in
    let same : t.1.now.rows ≡ s.1.now.rows = search rules in
    ((i.0.at (_ ∷ []) r t.0.now called).0 ∙ ap (λ l. given (row l a.0.now)) i.1, (record { at = λ xs. (i.0.at (_ ∷ xs) r t.0.now called).1 }, same ∙ i.1)))
    _ (h, refl)) in
    (sorted_values (row rows) lt items 0 sorts.0, subst (λ l. IsStableBy lt l (map (row rows) items)) all (stable_values (row rows) lt o start items sorts.1))
