use Rattle.std.proofs.Common.{sym, ◌∙◌, arith, mul-pos}
use Rattle.grid.proofs.Lemmas.{taken_in, taken_wide, taken_cells, taken_small, closed, rows_taken_out, taken_fits}
use Rattle.grid.proofs.grid.Grid.drop_rows.Goals as goal

pub overflow_sub-rest : goal.overflow_sub-rest
overflow_sub-rest g c =
    let within = taken_in _ _ _ _ _ c.self.inside.fits c.self.view_is _ _ c.requires.within in
    omega (arith, within)

pub row_groups-groups-requires : goal.row_groups-groups-requires
row_groups-groups-requires g c =
    let within = taken_in _ _ _ _ _ c.self.inside.fits c.self.view_is _ _ c.requires.within in
    record { fits = taken_small _ _ _ _ _ c.self.inside.fits c.self.view_is _ _ c.requires.within; point = omega (arith, within) }

pub drop_groups-requires : goal.drop_groups-requires
drop_groups-requires g c =
    let wide = taken_wide _ _ _ _ _ c.self.inside.fits c.self.view_is _ _ c.requires.within c.requires.some in
    record {
      cells = taken_cells _ _ _ _ _ c.self.inside.fits c.self.view_is _ _ c.requires.within ∙ sym c.row_groups-groups.ensures.cells;
      has_count = c.row_groups-groups.ensures.has_count (mul-pos c.requires.some wide);
    }

pub invariant_of-self-inside : goal.invariant_of-self-inside
invariant_of-self-inside g c =
    let taken = closed _ _ _ _ _ c.self.inside.fits c.self.view_is _ _ c.requires.within _ _ _ _ _ c.row_groups-groups.ensures.groups c.drop_groups.ensures in
    (rw c.cols_if_rows-self-inside.ensures (taken_fits _ _ _ _ _ c.self.inside.fits c.self.view_is _ _ c.requires.within _ taken), tt)

pub returns-clause-rows : goal.returns-clause-rows
returns-clause-rows g c =
    let taken = closed _ _ _ _ _ c.self.inside.fits c.self.view_is _ _ c.requires.within _ _ _ _ _ c.row_groups-groups.ensures.groups c.drop_groups.ensures in
    rw c.cols_if_rows-self-inside.ensures (rows_taken_out _ _ _ _ _ c.self.inside.fits c.self.view_is _ _ c.requires.within _ taken)
