use Rattle.std.proofs.Common.{◌∙◌, arith, refl, ap}
use Rattle.grid_base.proofs.Common.{written_from}
use Rattle.grid_base.proofs.Lemmas.{span_within, row_is, first_place, span_written_back, holds}
use Rattle.grid_base.proofs.flat.Flat.row_mut.Goals as goal

pub row_span-span-requires-clause-wide : goal.row_span-span-requires-clause-wide
row_span-span-requires-clause-wide g c = c.args.layout.size.has_cols (omega (arith, c.requires.row_in))

pub line_mut-requires-clause-within : goal.line_mut-requires-clause-within
line_mut-requires-clause-within g c = span_within _ _ _ _ (holds c.args.layout _ c.requires.cells) _ _ c.requires.row_in c.row_span-span.ensures

pub returns : goal.returns
returns g c =
    let some = c.args.layout.size.has_cols (omega (arith, c.requires.row_in)) in
    let fits = holds c.args.layout _ c.requires.cells in
    let span = c.row_span-span.ensures in
    let first = first_place _ _ _ _ span some in (
      (refl, λ w. ap (λ x. written_from x c.args.self.now w) first),
      record {
        writes_back = tt;
        rest = c.line_mut.ensures.rest ∙ row_is _ _ _ _ fits _ _ c.requires.row_in span;
        cells = ap (written_from _ c.args.self.now) c.line_mut.ensures.cells ∙ span_written_back _ _ _ _ fits _ _ c.requires.row_in span some;
      },
    )
