use Rattle.std.proofs.Common.{◌∙◌, ap}
use Rattle.grid_base.specs.declared.words.Symmetry.TheVariants.{Transpose}
use Rattle.grid_base.specs.Symmetry.{act}
use Rattle.grid_base.specs.Table.{row_count, col_count}
use Rattle.grid_base.proofs.ActLemmas.{act_is_transposed, rows-act, cols-act}
use Rattle.grid_view.proofs.SeenLemmas.{HoldsView-crossed, seen_crossed}
use Rattle.grid_view.proofs.view.GridView.transposed.Goals as goal

pub invariant_of-result : goal.invariant_of-result
invariant_of-result g c = (HoldsView-crossed _ _ _ c.self.inside.fits, tt)

pub returns-clause-act : goal.returns-clause-act
returns-clause-act g c = seen_crossed _ _ _ c.self.inside.fits ∙ ap (λ x. act Transpose x.rows) c.self.view_is

pub returns-clause-rows : goal.returns-clause-rows
returns-clause-rows g c = returns-clause-act g c ∙ act_is_transposed _

pub returns-clause-size : goal.returns-clause-size
returns-clause-size g c =
    let t = c.args.self.now in
    let rows = returns-clause-act g c in
    record {
      rows = ap row_count rows ∙ rows-act Transpose t.rows;
      cols = ap col_count rows ∙ cols-act Transpose t.rows t.table;
    }
