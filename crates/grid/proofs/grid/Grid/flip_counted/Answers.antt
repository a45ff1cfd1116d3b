use Rattle.std.proofs.Common.{sym}
use Rattle.grid.proofs.Common.{act-identity, HoldsSize-transposed}
use Rattle.grid.proofs.Lemmas.{flip_cols_across, price_across, rotate_half_by_part, seen_rows, seen_cols}
use Rattle.grid.proofs.grid.Grid.flip_counted.Goals as goal

pub flip_stored-requires-in-false-true : goal.flip_stored-requires-in-false-true
flip_stored-requires-in-false-true g c = (HoldsSize-transposed _ _ _ c.self.inside.fits).cells

pub returns-in-false-false-clause-rows : goal.returns-in-false-false-clause-rows
returns-in-false-false-clause-rows g c = rw (c.in-false-false.is-0, c.in-false-false.is-1) (sym (act-identity _ c.args.self.now.table))

pub returns-in-true-false-clause-rows : goal.returns-in-true-false-clause-rows
returns-in-true-false-clause-rows g c =
    rw (c.in-true-false.is-0, c.in-true-false.is-1, ← c.self.view_is) c.flip_stored.ensures.rows

pub returns-in-true-false-clause-symmetry : goal.returns-in-true-false-clause-symmetry
returns-in-true-false-clause-symmetry g c =
    rw (c.in-true-false.is-0, c.in-true-false.is-1, seen_rows _ _ _ _ _ c.self.inside.fits c.self.view_is, seen_cols _ _ _ _ _ c.self.inside.fits c.self.view_is) c.flip_stored.ensures.symmetry

pub returns-in-false-true-clause-rows : goal.returns-in-false-true-clause-rows
returns-in-false-true-clause-rows g c =
    rw (c.in-false-true.is-0, c.in-false-true.is-1, ← c.self.view_is) (flip_cols_across _ _ _ _ _ c.self.inside.fits c.flip_stored-in-false-true.ensures.cells (rw c.flipped-order.ensures at c.flip_stored-in-false-true.ensures.rows))

pub returns-in-false-true-clause-symmetry : goal.returns-in-false-true-clause-symmetry
returns-in-false-true-clause-symmetry g c =
    rw (c.in-false-true.is-0, c.in-false-true.is-1, seen_rows _ _ _ _ _ c.self.inside.fits c.self.view_is, seen_cols _ _ _ _ _ c.self.inside.fits c.self.view_is, ← price_across c.self.inside.row_count c.self.inside.col_count) c.flip_stored-in-false-true.ensures.symmetry

pub returns-in-true-true-clause-rows : goal.returns-in-true-true-clause-rows
returns-in-true-true-clause-rows g c =
    rw (c.in-true-true.is-0, c.in-true-true.is-1, ← c.self.view_is) (rotate_half_by_part _ _ _ _ _ c.self.inside.fits c.reverse_for_symmetry.ensures.cells)

pub returns-in-true-true-clause-symmetry : goal.returns-in-true-true-clause-symmetry
returns-in-true-true-clause-symmetry g c =
    rw (c.in-true-true.is-0, c.in-true-true.is-1, seen_rows _ _ _ _ _ c.self.inside.fits c.self.view_is, seen_cols _ _ _ _ _ c.self.inside.fits c.self.view_is) c.reverse_for_symmetry.ensures.symmetry
