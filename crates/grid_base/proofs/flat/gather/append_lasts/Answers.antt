use Rattle.std.proofs.Common.{◌≡◌, ◌-◌, ◌++◌, append-nil, sym, ◌∙◌, ap, take, arith, option_to_list}
use Rattle.grid_base.proofs.Lemmas.{lasts_step, no_item}
use Rattle.grid_base.proofs.flat.gather.append_lasts.Goals.{in-Some, in_default}
use Rattle.grid_base.proofs.flat.gather.append_lasts.Goals as goal

pub loop-line-preserved : goal.loop-line-preserved
loop-line-preserved g c =
    let v = c.line-item.result in
    let parts : v.items ≡ c.pop.new.self.items ++ option_to_list c.pop.result = ap (λ v. v.items) c.line-item.is ∙ c.pop.ensures.items in
    let rest : c.pop.new.self.items ≡ take (v.len - 1) v.items = c.pop.ensures.rest ∙ ap (λ v. take (v.len - 1) v.items) (sym c.line-item.is) in
    elim c.match-pop.branch [
      | in-Some w ↦
          let more : c.match-pop.cells.items ≡ c.loop-line.cells.items ++ option_to_list c.pop.result =
          ap (λ v. v.items) w.cells-is ∙ (w.push_reserved.ensures.items ∙ ap (λ r. c.loop-line.cells.items ++ option_to_list r) (sym w.in-Some.is)) in
          record {
            passed = lasts_step _ _ _ _ _ _ v c.pop.new.self _ c.loop-line.invariant.passed (omega arith) (omega arith) c.line-item.is v.ok.0 parts rest more;
            room = rw w.cells-is (omega (arith, w.push_reserved.ensures.len, w.push_reserved.ensures.capacity, c.loop-line.invariant.room));
            capacity = rw w.cells-is (omega (arith, w.push_reserved.ensures.capacity, c.loop-line.invariant.capacity));
          }
      | in_default w ↦
          let more : c.match-pop.cells.items ≡ c.loop-line.cells.items ++ option_to_list c.pop.result =
          ap (λ v. v.items) w.cells-is ∙ (sym (append-nil c.loop-line.cells.items) ∙ ap (λ xs. c.loop-line.cells.items ++ xs) (sym (no_item c.pop.result w.in_default.not-Some))) in
          record {
            passed = lasts_step _ _ _ _ _ _ v c.pop.new.self _ c.loop-line.invariant.passed (omega arith) (omega arith) c.line-item.is v.ok.0 parts rest more;
            room = rw w.cells-is (omega (arith, c.loop-line.invariant.room));
            capacity = rw w.cells-is c.loop-line.invariant.capacity;
          }
    ]
