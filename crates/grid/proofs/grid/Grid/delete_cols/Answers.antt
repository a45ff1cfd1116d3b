use Rattle.grid_base.specs.declared.words.Symmetry.TheVariants.{Transpose}
use Rattle.grid.proofs.Common.{rows-act}
use Rattle.grid.proofs.Lemmas.{cols_taken}
use Rattle.grid.proofs.grid.Grid.delete_cols.Goals as goal

pub returns-clause-found : goal.returns-clause-found
returns-clause-found g c = rw (c.transpose.ensures.rows, rows-act Transpose c.args.self.now.rows) at c.delete_rows-found.ensures.found

pub returns-clause-rows : goal.returns-clause-rows
returns-clause-rows g c =
    let t = c.args.self.now.table in
    cols_taken c.args.start c.args.count _ _ _ _ _ t (rw (c.transpose.ensures.rows, rows-act Transpose c.args.self.now.rows) at c.delete_rows-found.ensures.found) c.transpose.ensures.rows c.transpose-2.ensures.rows c.delete_rows-found.ensures.rows
