use Rattle.std.proofs.Common.{◌≡◌, ◌+◌, ◌≤◌, length, is_ok, true, refl, sym, ◌∙◌, ap, arith, vec_len, vec_capacity}
use Rattle.grid_base.proofs.Lemmas.{passed_line, passed_step, all_left, left_to_give, none_left}
use Rattle.grid_base.proofs.flat.gather.append_each.Goals as goal

pub loop-line-preserved : goal.loop-line-preserved
loop-line-preserved g c =
    let here = passed_line _ _ _ _ _ _ _ c.loop-line.invariant.passed (omega arith) (omega arith) c.line-item.result c.line-item.is in
    let next = left_to_give c.args.lines.now c.loop-line.line-index (omega arith) in
    let room : vec_len c.loop-line.cells + vec_len c.line-item.result ≤ vec_capacity c.loop-line.cells =
    omega (arith, c.loop-line.invariant.room, next, ap length here, c.line-item.result.ok.0) in
    let ok : is_ok c.append.result ≡ true = c.append.ensures.succeeds (rw (sym c.line-item.is) room) in
    let len : vec_len c.append.new.self ≡ vec_len c.loop-line.cells + vec_len c.line-item.result = c.append.ensures.len ∙ rw (ok, sym c.line-item.is) refl in
    record {
      passed =
          passed_step _ _ _ _ _ _ _ c.loop-line.invariant.passed (omega arith) (omega arith) c.line-item.result c.append.new.other _ c.line-item.is
          (c.append.ensures.other_items ∙ rw ok refl)
          (c.append.ensures.items ∙ rw (ok, sym c.line-item.is) refl);
      room = omega (arith, c.loop-line.invariant.room, next, ap length here, c.line-item.result.ok.0, len, c.append.ensures.capacity);
    }

pub returns-clause-moved : goal.returns-clause-moved
returns-clause-moved g c =
    none_left _ _ (all_left _ _ _ _ _ _ _ c.loop-line.invariant.passed (omega arith) (omega arith) (omega arith))
