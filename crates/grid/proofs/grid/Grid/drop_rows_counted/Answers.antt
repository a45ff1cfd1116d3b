use Rattle.std.proofs.Common.{sym, ◌∙◌, ap, arith, mul-pos}
use Rattle.grid.proofs.Common.{saturating_count}
use Rattle.grid.proofs.Lemmas.{taken_in, taken_wide, taken_cells, taken_small, closed, rows_taken_out, taken_fits, taken_shift}
use Rattle.grid.proofs.grid.Grid.drop_rows_counted.Goals as goal

pub overflow_sub-rest : goal.overflow_sub-rest
overflow_sub-rest g c =
    let within = taken_in _ _ _ _ _ c.self.inside.fits c.self.view_is _ _ c.requires.within in
    omega (arith, within)

pub row_groups-groups-requires : goal.row_groups-groups-requires
row_groups-groups-requires g c =
    let within = taken_in _ _ _ _ _ c.self.inside.fits c.self.view_is _ _ c.requires.within in
    record { fits = taken_small _ _ _ _ _ c.self.inside.fits c.self.view_is _ _ c.requires.within; point = omega (arith, within) }

pub close_up-requires : goal.close_up-requires
close_up-requires g c =
    let wide = taken_wide _ _ _ _ _ c.self.inside.fits c.self.view_is _ _ c.requires.within c.requires.some in
    record {
      cells = taken_cells _ _ _ _ _ c.self.inside.fits c.self.view_is _ _ c.requires.within ∙ sym c.row_groups-groups.ensures.cells;
      has_count = c.row_groups-groups.ensures.has_count (mul-pos c.requires.some wide);
    }

pub invariant_of-self-inside : goal.invariant_of-self-inside
invariant_of-self-inside g c =
    let taken = closed _ _ _ _ _ c.self.inside.fits c.self.view_is _ _ c.requires.within _ _ _ _ _ c.row_groups-groups.ensures.groups c.close_up.ensures.closed in
    (rw c.cols_if_rows-self-inside.ensures (taken_fits _ _ _ _ _ c.self.inside.fits c.self.view_is _ _ c.requires.within _ taken), tt)

pub returns-clause-rows : goal.returns-clause-rows
returns-clause-rows g c =
    let taken = closed _ _ _ _ _ c.self.inside.fits c.self.view_is _ _ c.requires.within _ _ _ _ _ c.row_groups-groups.ensures.groups c.close_up.ensures.closed in
    rw c.cols_if_rows-self-inside.ensures (rows_taken_out _ _ _ _ _ c.self.inside.fits c.self.view_is _ _ c.requires.within _ taken)

pub returns-clause-shift : goal.returns-clause-shift
returns-clause-shift g c =
    rw (taken_shift _ _ _ _ _ c.self.inside.fits c.self.view_is _ _ c.requires.within c.requires.some)
    (c.close_up.ensures.shift ∙ ap (saturating_count c.args.tally.now.shift) (c.row_groups-groups.ensures.shift c.requires.some))
