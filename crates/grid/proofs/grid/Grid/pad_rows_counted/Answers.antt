use Rattle.std.proofs.Common.{◌≡◌, ◌+◌, ◌*◌, ◌⊎◌, inl, inr, ap, refl, sym, ◌∙◌, arith, rules, mul-pos}
use Rattle.grid.proofs.Common.{row_count, col_count, padding_count, rows_added_shift}
use Rattle.grid.proofs.Lemmas.{padding_none, pads_none, pad_cols, pad_rows_small, pad_shift, pad_cells, pads_rows, pad_fits, seen_same, either_way}
use Rattle.grid_base.proofs.Common.{saturating_count}
use Rattle.grid.proofs.grid.Grid.pad_rows_counted.Goals.{then-count-eq0-via-then-count-eq0, then-count-eq0-via-else-count-eq0+then-rows-eq0}
use Rattle.grid.proofs.grid.Grid.pad_rows_counted.Goals as goal

pub returns-then-count-eq0-clause-padded : goal.returns-then-count-eq0-clause-padded
returns-then-count-eq0-clause-padded g c =
    let none : (c.args.count ≡ 0) ⊎ (row_count c.args.self.now.rows ≡ 0) =
    elim c.then-count-eq0.branch [ then-count-eq0-via-then-count-eq0 w ↦ inl (omega (arith, w.if-count-eq0.true)) | then-count-eq0-via-else-count-eq0+then-rows-eq0 w ↦ inr (omega (arith, w.if-rows-eq0.true, c.size-rows.ensures.rows)) ] in
    pads_none _ _ _ _ (padding_none c.args.count c.args.self.now.rows none)

pub returns-then-count-eq0-clause-fails : goal.returns-then-count-eq0-clause-fails
returns-then-count-eq0-clause-fails g c =
    let none : (c.args.count ≡ 0) ⊎ (row_count c.args.self.now.rows ≡ 0) =
    elim c.then-count-eq0.branch [ then-count-eq0-via-then-count-eq0 w ↦ inl (omega (arith, w.if-count-eq0.true)) | then-count-eq0-via-else-count-eq0+then-rows-eq0 w ↦ inr (omega (arith, w.if-rows-eq0.true, c.size-rows.ensures.rows)) ] in
    let same : (row_count c.args.self.now.rows + padding_count c.args.count c.args.self.now.rows) * col_count c.args.self.now.rows ≡ (row_count c.args.self.now.rows + 0) * col_count c.args.self.now.rows =
    ap (λ x. (row_count c.args.self.now.rows + x) * col_count c.args.self.now.rows) (padding_none c.args.count c.args.self.now.rows none) in
    record {
      too_large = (λ h. absurd (cc h), λ large. absurd (omega (arith, large, same, c.args.self.now.fits.cells)));
      none = λ e. (search rules);
      unchanged = (search rules);
    }

pub open-requires : goal.open-requires
open-requires g c =
    let groups = c.row_groups-groups.ensures in
    let wide = pad_cols _ _ _ _ _ c.self.inside.fits c.self.view_is _ _ _ c.size-rows.ensures.rows c.size-rows.ensures.cols c.if-rows-eq0.false (c.if-not-fits_usize.ensures.0 refl) in
    record {
      cells =
          pad_cells _ _ _ _ _ c.self.inside.fits c.self.view_is _ _ _ c.size-rows.ensures.rows c.size-rows.ensures.cols c.if-rows-eq0.false (c.if-not-fits_usize.ensures.0 refl) _ _ c.in_ok-append_defaults.ensures.ok
          ∙ sym groups.cells;
      has_lines = groups.has_lines wide;
      has_width = groups.has_width (mul-pos (omega (arith, c.if-rows-eq0.false)) wide);
      has_count = groups.has_count (mul-pos (omega (arith, c.if-count-eq0.false)) wide);
    }

pub overflow_add-self : goal.overflow_add-self
overflow_add-self g c = let small = pad_rows_small _ _ _ _ _ c.self.inside.fits c.self.view_is _ _ _ c.size-rows.ensures.rows c.size-rows.ensures.cols c.if-rows-eq0.false (c.if-not-fits_usize.ensures.0 refl) in omega (arith, small)

pub invariant_of-self-inside-2 : goal.invariant_of-self-inside-2
invariant_of-self-inside-2 g c =
    (pad_fits _ _ _ _ _ c.self.inside.fits c.self.view_is _ _ _ c.size-rows.ensures.rows c.size-rows.ensures.cols c.if-rows-eq0.false (c.if-not-fits_usize.ensures.0 refl) _ _ c.in_ok-append_defaults.ensures.ok c.args.at _ _ _ _ _ c.row_groups-groups.ensures.groups c.requires.point c.open.ensures.opened, tt)

pub returns-clause-padded : goal.returns-clause-padded
returns-clause-padded g c =
    pads_rows _ _ _ _ _ c.self.inside.fits c.self.view_is _ _ _ c.size-rows.ensures.rows c.size-rows.ensures.cols c.if-rows-eq0.false (c.if-not-fits_usize.ensures.0 refl) _ _ c.in_ok-append_defaults.ensures.ok c.args.at _ _ _ _ _ c.row_groups-groups.ensures.groups c.requires.point c.open.ensures.opened

pub returns-clause-shift : goal.returns-clause-shift
returns-clause-shift g c =
    rw (pad_shift _ _ _ _ _ c.self.inside.fits c.self.view_is _ _ _ c.size-rows.ensures.rows c.size-rows.ensures.cols c.if-rows-eq0.false (c.if-not-fits_usize.ensures.0 refl) (λ o m n k. rows_added_shift o m n c.args.at k))
    (c.open.ensures.shift ∙ ap (saturating_count c.args.tally.now.shift) (c.row_groups-groups.ensures.shift (omega (arith, c.if-count-eq0.false))))

pub returns-in_err-append_defaults-clause-fails : goal.returns-in_err-append_defaults-clause-fails
returns-in_err-append_defaults-clause-fails g c =
    record {
      too_large = (search rules);
      none = (search rules);
      unchanged = either_way c.from_residual.result (seen_same _ _ _ _ _ c.self.inside.fits c.self.view_is _ _ c.in_err-append_defaults.ensures.err);
    }
