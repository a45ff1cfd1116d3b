use Rattle.std.proofs.Common.{◌<◌, [], ◌∙◌, ap, arith, length, slice_index_or}
use Rattle.std.proofs.lemmas.List.{get_or_default}
use Rattle.grid_base.proofs.RemainingLemmas.{remaining_all}
use Rattle.grid_base.proofs.StrideLemmas.{lines_in_order, lines_in_reverse, each_line_in_order, each_line_in_reverse}
use Rattle.grid_view.proofs.SeenLemmas.{seen_rows}
use Rattle.grid_view.proofs.view.GridView.iter_rows.Goals as goal

pub invariant_of-result : goal.invariant_of-result
invariant_of-result g c = record { ordered = omega arith; within = omega (arith, seen_rows _ _ _ c.self.inside.fits _ c.self.view_is, ap (λ x. length x.rows) c.view.ensures) }

pub returns : goal.returns
returns g c =
    let rest = remaining_all c.self.inside.rows.count c.view.result.rows (omega (arith, seen_rows _ _ _ c.self.inside.fits _ c.self.view_is, ap (λ x. length x.rows) c.view.ensures)) ∙ ap (λ x. x.rows) c.view.ensures in record {
      gives = (
        rest,
        each_line_in_order _,
        each_line_in_reverse _,
        lines_in_order _,
        lines_in_reverse _,
        omega (arith, ap length rest, seen_rows _ _ _ c.self.inside.fits _ c.self.view_is),
      );
      widths = λ k d lt.
          let below : k < length c.args.self.now.rows = omega (arith, ap length rest) in
          ap (λ rows. length (slice_index_or rows k d)) rest ∙ (ap length (get_or_default c.args.self.now.rows k d [] below) ∙ c.args.self.now.table.even k below);
    }
