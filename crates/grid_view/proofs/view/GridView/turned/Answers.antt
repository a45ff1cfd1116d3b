use Rattle.std.proofs.Common.{◌∙◌, ap}
use Rattle.grid_base.specs.Symmetry.{act}
use Rattle.grid_base.specs.Table.{row_count, col_count}
use Rattle.grid_base.proofs.ActLemmas.{rows-act, cols-act}
use Rattle.grid_view.proofs.SeenLemmas.{holds_act, seen_act}
use Rattle.grid_view.proofs.view.GridView.turned.Goals as goal

pub invariant_of-result : goal.invariant_of-result
invariant_of-result g c = rw (c.turned.ensures, c.turned-2.ensures, c.crossed.ensures) (holds_act _ _ _ _ _ _ c.self.inside.fits, tt)

pub returns-clause-rows : goal.returns-clause-rows
returns-clause-rows g c =
    rw (c.turned.ensures, c.turned-2.ensures, c.crossed.ensures, c.flags-transposes.ensures)
    (seen_act _ _ _ c.self.inside.fits c.args.symmetry ∙ ap (λ x. act c.args.symmetry x.rows) c.self.view_is)

pub returns-clause-size : goal.returns-clause-size
returns-clause-size g c =
    let t = c.args.self.now in
    let rows = returns-clause-rows g c in
    record {
      rows = ap row_count rows ∙ rows-act c.args.symmetry t.rows;
      cols = ap col_count rows ∙ cols-act c.args.symmetry t.rows t.table;
    }
