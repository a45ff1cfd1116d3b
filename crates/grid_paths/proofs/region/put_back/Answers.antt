use Rattle.std.proofs.Common.{◌≡◌, [], ◌∷◌, ◌++◌, sym, ◌∙◌, ap}
use Rattle.grid_paths.proofs.Common.{with_cell, undone}
use Rattle.grid_paths.proofs.Lemmas.{set_is, undone-push}
use Rattle.grid_paths.proofs.region.put_back.Goals as goal

pub loop-x-preserved : goal.loop-x-preserved
loop-x-preserved g c =
    let t = c.loop-x.grid.rows in
    let x = c.in-Some.x in
    let left = c.pop.new.self.items in
    let same = c.set.ensures.same in
    let before = c.loop-x.invariant.same in
    let put : c.set.new.self.rows ≡ with_cell t (x.0).0 (x.0).1 x.1 = set_is t c.loop-x.grid.table (x.0).0 (x.0).1 x.1 c.set.new.self.rows c.set.result c.set.ensures.in_range c.set.ensures.rows in
    let last : c.loop-x.taken.items ≡ left ++ x ∷ [] = c.in-Some.ensures.items in
    record {
      same = record { rows = same.rows ∙ before.rows; cols = same.cols ∙ before.cols; order = same.order ∙ before.order };
      saves = ap (λ u. undone left u) put
          ∙ (sym (undone-push left x t) ∙ (ap (λ q. undone q t) (sym last) ∙ c.loop-x.invariant.saves));
    }
