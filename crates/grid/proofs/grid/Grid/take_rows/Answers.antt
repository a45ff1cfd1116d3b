use Rattle.std.proofs.Common.{sym, ◌∙◌, arith}
use Rattle.grid.proofs.Lemmas.{seen_same, either_way, taken_in, taken_cells, taken_small, taken_out, rows_taken_out, taken_fits, taken_storage}
use Rattle.grid.proofs.grid.Grid.take_rows.Goals as goal

pub overflow_sub-rest : goal.overflow_sub-rest
overflow_sub-rest g c =
    let within = taken_in _ _ _ _ _ c.self.inside.fits c.self.view_is _ _ c.requires.within in
    omega (arith, within)

pub row_groups-groups-requires : goal.row_groups-groups-requires
row_groups-groups-requires g c =
    let within = taken_in _ _ _ _ _ c.self.inside.fits c.self.view_is _ _ c.requires.within in
    record { fits = taken_small _ _ _ _ _ c.self.inside.fits c.self.view_is _ _ c.requires.within; point = omega (arith, within) }

pub take_out-requires : goal.take_out-requires
take_out-requires g c =
    taken_cells _ _ _ _ _ c.self.inside.fits c.self.view_is _ _ c.requires.within ∙ sym c.row_groups-groups.ensures.cells

pub invariant_of-self-inside-2 : goal.invariant_of-self-inside-2
invariant_of-self-inside-2 g c =
    let taken = taken_out _ _ _ _ _ c.self.inside.fits c.self.view_is _ _ c.requires.within _ _ _ _ _ _ c.row_groups-groups.ensures.groups c.in_ok-cells.ensures.taken in
    (rw c.cols_if_rows-self-inside.ensures (taken_fits _ _ _ _ _ c.self.inside.fits c.self.view_is _ _ c.requires.within _ taken), tt)

pub returns-clause-rows : goal.returns-clause-rows
returns-clause-rows g c =
    let taken = taken_out _ _ _ _ _ c.self.inside.fits c.self.view_is _ _ c.requires.within _ _ _ _ _ _ c.row_groups-groups.ensures.groups c.in_ok-cells.ensures.taken in
    rw c.cols_if_rows-self-inside.ensures (rows_taken_out _ _ _ _ _ c.self.inside.fits c.self.view_is _ _ c.requires.within _ taken)

pub returns-clause-cells : goal.returns-clause-cells
returns-clause-cells g c =
    taken_storage _ _ _ _ _ c.self.inside.fits c.self.view_is _ _ c.requires.within _ _ _ _ _ _ c.row_groups-groups.ensures.groups c.in_ok-cells.ensures.taken

pub returns-in_err-cells-clause-err : goal.returns-in_err-cells-clause-err
returns-in_err-cells-clause-err g c = either_way c.from_residual.result (seen_same _ _ _ _ _ c.self.inside.fits c.self.view_is _ _ c.in_err-cells.ensures.err)
