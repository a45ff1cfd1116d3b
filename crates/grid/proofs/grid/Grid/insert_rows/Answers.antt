use Rattle.std.proofs.Common.{rules, ◌≡◌, ◌<◌, length, refl, sym, ◌∙◌, ap, arith}
use Rattle.grid.proofs.Common.{common_steps, col_count, items_of_each, rows-vecs, factor_small}
use Rattle.grid.proofs.Lemmas.{woven_lent, seen_rows, seen_same, RowsBehind-lines, put_cells, put_fits, rows_put, no_room, room}
use Rattle.grid.proofs.grid.Grid.insert_rows.Goals as goal

pub returns-then-not-fits_usize-clause-fails : goal.returns-then-not-fits_usize-clause-fails
returns-then-not-fits_usize-clause-fails g c =
    let width : c.first_len-width.result ≡ col_count (items_of_each c.args.lines.items) = c.first_len-width.ensures ∙ ap (λ xs. col_count (items_of_each xs)) c.as_slice.ensures.value in
    let count : c.len-count.result ≡ length c.args.lines.items = omega arith in
    record {
      too_large = rw (sym count) (λ _. no_room _ _ _ _ _ _ (seen_rows _ _ _ _ _ c.self.inside.fits c.self.view_is) width c.fits_usize.ensures c.if-not-fits_usize.true, λ _. refl);
      none = λ e. (search rules);
      lines_back = (search rules);
      unchanged = refl;
    }

pub row_groups-groups-requires-clause-point : goal.row_groups-groups-requires-clause-point
row_groups-groups-requires-clause-point g c =
    let rows = seen_rows _ _ _ _ _ c.self.inside.fits c.self.view_is in
    omega (arith, rows, c.requires.point)

pub weave-requires : goal.weave-requires
weave-requires g c =
    let width : c.first_len-width.result ≡ col_count (items_of_each c.args.lines.items) = c.first_len-width.ensures ∙ ap (λ xs. col_count (items_of_each xs)) c.as_slice.ensures.value in
    let fits = c.requires.fits (omega arith) in
    let behind = RowsBehind-lines c.self.inside.order _ _ _ _ c.requires.table width (omega arith) c.as_mut_slice.ensures.value c.in-Ok.ensures.ok in
    ap length c.as_mut_slice-in-Ok.ensures.cells ∙ put_cells _ _ _ _ _ c.self.inside.fits c.self.view_is _ (rw width fits) _ _ _ behind ∙ sym c.row_groups-groups.ensures.cells

pub overflow_add-self : goal.overflow_add-self
overflow_add-self g c =
    let width : c.first_len-width.result ≡ col_count (items_of_each c.args.lines.items) = c.first_len-width.ensures ∙ ap (λ xs. col_count (items_of_each xs)) c.as_slice.ensures.value in
    let some : 0 < c.first_len-width.result = omega (arith, width, c.requires.table.nonempty 0 (omega (arith, rows-vecs c.args.lines.items))) in
    let small = factor_small _ _ some (c.fits_usize.ensures.0 c.if-not-fits_usize.false) in
    omega (arith, small)

pub invariant_of-self-inside : goal.invariant_of-self-inside
invariant_of-self-inside g c =
    let width : c.first_len-width.result ≡ col_count (items_of_each c.args.lines.items) = c.first_len-width.ensures ∙ ap (λ xs. col_count (items_of_each xs)) c.as_slice.ensures.value in
    let some : 0 < c.len-count.result = omega arith in
    let fits = c.requires.fits (omega arith) in
    let behind = RowsBehind-lines c.self.inside.order _ _ _ _ c.requires.table width (omega arith) c.as_mut_slice.ensures.value c.in-Ok.ensures.ok in
    (put_fits _ _ _ _ _ c.self.inside.fits c.self.view_is _ (rw width fits) _ _ _ behind _ _ _ _ _ _ c.row_groups-groups.ensures.groups (woven_lent _ _ _ _ c.as_mut_slice-in-Ok.ensures.cells c.weave.ensures) some (c.fits_usize.ensures.0 c.if-not-fits_usize.false), tt)

pub returns-in-Ok-clause-rows : goal.returns-in-Ok-clause-rows
returns-in-Ok-clause-rows g c =
    let width : c.first_len-width.result ≡ col_count (items_of_each c.args.lines.items) = c.first_len-width.ensures ∙ ap (λ xs. col_count (items_of_each xs)) c.as_slice.ensures.value in
    let fits = c.requires.fits (omega arith) in
    let behind = RowsBehind-lines c.self.inside.order _ _ _ _ c.requires.table width (omega arith) c.as_mut_slice.ensures.value c.in-Ok.ensures.ok in
    rows_put _ _ _ _ _ c.self.inside.fits c.self.view_is _ (rw width fits) _ _ _ behind _ _ _ _ _ _ c.row_groups-groups.ensures.groups (woven_lent _ _ _ _ c.as_mut_slice-in-Ok.ensures.cells c.weave.ensures) c.requires.point

pub returns-in-Ok-clause-fails : goal.returns-in-Ok-clause-fails
returns-in-Ok-clause-fails g c =
    let width : c.first_len-width.result ≡ col_count (items_of_each c.args.lines.items) = c.first_len-width.ensures ∙ ap (λ xs. col_count (items_of_each xs)) c.as_slice.ensures.value in
    let count : c.len-count.result ≡ length c.args.lines.items = omega arith in
    record {
      too_large = rw (sym count) (λ h. absurd h, λ large. room _ _ _ _ _ _ (seen_rows _ _ _ _ _ c.self.inside.fits c.self.view_is) width c.fits_usize.ensures c.if-not-fits_usize.false large);
      none = λ e. (search rules);
      lines_back = (search rules);
      unchanged = (search rules);
    }

pub returns-in-Err-clause-fails : goal.returns-in-Err-clause-fails
returns-in-Err-clause-fails g c =
    let width : c.first_len-width.result ≡ col_count (items_of_each c.args.lines.items) = c.first_len-width.ensures ∙ ap (λ xs. col_count (items_of_each xs)) c.as_slice.ensures.value in
    let count : c.len-count.result ≡ length c.args.lines.items = omega arith in
    record {
      too_large = rw (sym count) (λ h. absurd (cc h), λ large. absurd (room _ _ _ _ _ _ (seen_rows _ _ _ _ _ c.self.inside.fits c.self.view_is) width c.fits_usize.ensures c.if-not-fits_usize.false large));
      none = λ e. (search rules);
      lines_back = grind (arith, common_steps);
      unchanged = seen_same _ _ _ _ _ c.self.inside.fits c.self.view_is _ _ c.in-Err.ensures.err;
    }
