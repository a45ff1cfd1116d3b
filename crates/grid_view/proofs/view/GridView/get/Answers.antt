use Rattle.std.proofs.Common.{sym, arith, rules}
use Rattle.grid_view.proofs.SeenLemmas.{seen_rows, seen_cols, past_rows, past_cols}
use Rattle.grid_view.proofs.view.GridView.get.Goals as goal
use Rattle.grid_view.proofs.view.GridView.get.Goals.{else-row-self-via-then-row-self+else-col-self, else-row-self-via-else-row-self}

pub get_unchecked-requires : goal.get_unchecked-requires
get_unchecked-requires g c = (omega (arith, seen_rows _ _ _ c.self.inside.fits _ c.self.view_is, c.if-row-self.true), omega (arith, seen_cols _ _ _ c.self.inside.fits _ c.self.view_is, c.if-col-self.true))

pub returns-then-col-self-clause-in_range : goal.returns-then-col-self-clause-in_range
returns-then-col-self-clause-in_range g c = (omega (arith, seen_rows _ _ _ c.self.inside.fits _ c.self.view_is, c.if-row-self.true), omega (arith, seen_cols _ _ _ c.self.inside.fits _ c.self.view_is, c.if-col-self.true))

pub returns-else-row-self-clause-cell : goal.returns-else-row-self-clause-cell
returns-else-row-self-clause-cell g c =
    rw (← c.self.view_is)
    (elim c.else-row-self.branch [
      | else-row-self-via-then-row-self+else-col-self w ↦ sym (past_cols _ _ _ c.self.inside.fits _ _ w.if-row-self.true w.if-col-self.false)
      | else-row-self-via-else-row-self w ↦ sym (past_rows _ _ _ c.self.inside.fits _ _ w.if-row-self.false)
    ])

pub returns-then-col-self-clause-cell : goal.returns-then-col-self-clause-cell
returns-then-col-self-clause-cell = search rules
