use Rattle.std.proofs.Common.{◌≡◌, ℕ, Some, Contains, ◌∙◌, sym, subst, rules}
use Rattle.grid_paths.proofs.Common.{InRange, cell_in_range, IsFilled, alike, places, IsWritten}
use Rattle.grid_paths.proofs.Lemmas.{IsFilled-flood, IsFilled-board, cells_mapped}
use Rattle.grid_paths.proofs.region.fill_region.Goals as goal

pub fill_all-requires : goal.fill_all-requires
fill_all-requires g c =
    let u = c.mark_region.new.grid in
    subst (λ xs. (a : ℕ × ℕ) → Contains (places xs) a → InRange u.rows a.0 a.1) (sym c.deref.ensures.value)
    (λ a h. cell_in_range u.rows u.table a.0 a.1 c.in-Some-other_than.other (c.in_ok-taken-in-Some-other_than.ensures.written.written a h))

pub returns-in-None-other_than-clause-filled : goal.returns-in-None-other_than-clause-filled
returns-in-None-other_than-clause-filled g c =
    λ x e.
    let t = c.args.grid.now in
    let u = c.update.new.self in
    let same = c.update.ensures.same in
    let first = c.in-Some.first.now in
    let both : Some first ≡ Some x = c.in-Some.ensures.cell ∙ e in
    let first_is : first ≡ x = cc in
    subst (λ y. IsFilled c.args.connectivity (alike g.T.PartialEq.eq y t.rows) c.args.at c.args.value t.rows u.rows) first_is
    (IsFilled-board g.T.PartialEq.eq first c.args.connectivity c.args.at c.args.value t.rows u.rows t.table u.table
    (record { rows = same.rows; cols = same.cols }) (cell_in_range t.rows t.table c.args.at.0 c.args.at.1 x e) c.in-None-other_than.ensures
    (cells_mapped _ _ t.rows u.rows c.args.value c.update.ensures.cells (λ b p y h. search rules)))

pub returns-in_ok-taken-in-Some-other_than-clause-filled : goal.returns-in_ok-taken-in-Some-other_than-clause-filled
returns-in_ok-taken-in-Some-other_than-clause-filled g c =
    λ x e.
    let t = c.args.grid.now in
    let xs = places c.in_ok-taken-in-Some-other_than.taken.items in
    let marked = c.in_ok-taken-in-Some-other_than.ensures.written in
    let u = c.fill_all.new.grid.rows in
    let filled = subst (λ q. IsWritten c.args.value (λ a. Contains (places q) a) c.mark_region.new.grid.rows u) c.deref.ensures.value c.fill_all.ensures.written in
    let first = c.in-Some.first.now in
    let both : Some first ≡ Some x = c.in-Some.ensures.cell ∙ e in
    let first_is : first ≡ x = cc in
    subst (λ y. IsFilled c.args.connectivity (alike g.T.PartialEq.eq y t.rows) c.args.at c.args.value t.rows u) first_is
    (IsFilled-flood g.T.PartialEq.eq first t.rows t.table c.args.connectivity c.args.at xs c.args.value u c.in_ok-taken-in-Some-other_than.ensures.flood
    (record { written = filled.written; kept = λ a out. filled.kept a out ∙ marked.kept a out }))

pub returns-in_ok-_taken-in-Some-2-clause-filled : goal.returns-in_ok-_taken-in-Some-2-clause-filled
returns-in_ok-_taken-in-Some-2-clause-filled g c =
    λ x e.
    let eq = g.T.PartialEq.eq in
    let t = c.args.grid.now in
    let first = c.in-Some.first.now in
    let both : Some first ≡ Some x = c.in-Some.ensures.cell ∙ e in
    let first_is : first ≡ x = cc in
    subst (λ y. IsFilled c.args.connectivity (alike eq y t.rows) c.args.at c.args.value t.rows c.mark_region-in-Some-2.new.grid.rows) first_is
    (IsFilled-flood eq first t.rows t.table c.args.connectivity c.args.at (places c.in_ok-_taken-in-Some-2._taken.items) c.args.value c.mark_region-in-Some-2.new.grid.rows
    c.in_ok-_taken-in-Some-2.ensures.flood c.in_ok-_taken-in-Some-2.ensures.written)
