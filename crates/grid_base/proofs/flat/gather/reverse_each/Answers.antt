use Rattle.std.proofs.Common.{[], reverse, refl, sym, ◌∙◌, ap, arith}
use Rattle.grid_base.proofs.Lemmas.{passed_step}
use Rattle.grid_base.proofs.flat.gather.reverse_each.Goals as goal

pub loop-line-preserved : goal.loop-line-preserved
loop-line-preserved g c =
    passed_step _ _ _ _ _ _ _ c.loop-line.invariant (omega arith) (omega arith) c.line-item.result c.reverse.new.self [] c.line-item.is (c.reverse.ensures.items ∙ ap (λ v. reverse v.items) (sym c.line-item.is)) refl
