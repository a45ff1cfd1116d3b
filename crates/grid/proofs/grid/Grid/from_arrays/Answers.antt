use Rattle.std.proofs.Common.{rules, ◌≡◌, ◌+◌, ◌*◌, ◌++◌, [], ◌∷◌, ◌∙◌, ap, sym, length, arith}
use Rattle.grid.proofs.Common.{common_steps, place_within}
use Rattle.grid.proofs.Lemmas.{CanCut-cells, made_size, slot_by_order, product_by_order, emptying_none, emptying_at, emptying_next, held_all, full_slot}
use Rattle.grid.proofs.grid.Grid.from_arrays.Goals as goal

pub loop-i-init : goal.loop-i-init
loop-i-init g c = record {
  slots = emptying_none c.args.order g.row.R g.row.C _ c.args.cells.now _ (omega arith) (ap length c.in_ok-taken.ensures.items) c.told-cells;
  room = omega (arith, c.in_ok-taken.ensures.capacity);
}

pub loop-j-init : goal.loop-j-init
loop-j-init g c = record {
  slots = emptying_at c.args.order g.row.R g.row.C _ _ _ _ _ (omega arith) c.loop-i.invariant.slots;
  room = c.loop-i.invariant.room;
}

pub take_cell-cell-requires : goal.take_cell-cell-requires
take_cell-cell-requires g c =
    let slot = slot_by_order c.args.order g.row.R g.row.C c.loop-i.i c.loop-j.j _ _ c.by_order-lines.ensures c.by_order-row.ensures c.loop-i-test.true c.loop-j-test.true in
    let stays = c.loop-j.invariant.slots.stays _ _ slot.lr slot.lc (omega (arith, slot.is)) in
    (search rules, (search rules, (slot.lr, (slot.lc, λ e. full_slot c.args.cells.now _ _ c.requires (sym stays ∙ e)))))

pub push_reserved-requires : goal.push_reserved-requires
push_reserved-requires g c =
    let slot = slot_by_order c.args.order g.row.R g.row.C c.loop-i.i c.loop-j.j _ _ c.by_order-lines.ensures c.by_order-row.ensures c.loop-i-test.true c.loop-j-test.true in
    let within = place_within c.args.order g.row.R g.row.C _ _ slot.lr slot.lc in
    omega (arith, within, slot.is, c.in_ok-count.ensures.count, c.loop-j.invariant.slots.count, c.loop-j.invariant.room)

pub loop-j-preserved : goal.loop-j-preserved
loop-j-preserved g c =
    let slot = slot_by_order c.args.order g.row.R g.row.C c.loop-i.i c.loop-j.j _ _ c.by_order-lines.ensures c.by_order-row.ensures c.loop-i-test.true c.loop-j-test.true in
    let items : c.push_reserved.new.self.items ≡ c.loop-j.taken.items ++ c.take_cell-cell.result ∷ [] = grind (arith, common_steps) in
    record {
      slots = emptying_next c.args.order g.row.R g.row.C _ _ _ _ c.args.cells.now c.loop-j.cells c.take_cell-cell.new.cells c.loop-j.taken.items c.push_reserved.new.self.items c.take_cell-cell.result slot (omega arith) c.take_cell-cell.ensures.cell c.take_cell-cell.ensures.emptied items c.loop-j.invariant.slots;
      room = omega (arith, c.push_reserved.ensures.capacity);
    }

pub loop-i-preserved : goal.loop-i-preserved
loop-i-preserved g c =
    let all : c.loop-j.j ≡ c.by_order-lines.result.1 = omega arith in
    record {
      slots = emptying_at c.args.order g.row.R g.row.C _ _ _ _ _ (ap (λ x. c.loop-i.i * c.by_order-lines.result.1 + x) all ∙ omega arith) c.loop-j.invariant.slots;
      room = c.loop-j.invariant.room;
    }

pub from_vec_with_order-requires : goal.from_vec_with_order-requires
from_vec_with_order-requires g c =
    let all : c.loop-i.i ≡ c.by_order-lines.result.0 = omega arith in
    let count : length c.loop-i.taken.items ≡ g.row.R * g.row.C =
    c.loop-i.invariant.slots.count ∙ (ap (λ x. x * c.by_order-lines.result.1) all ∙ product_by_order c.args.order g.row.R g.row.C _ c.by_order-lines.ensures) in
    CanCut-cells _ g.row.R g.row.C count

pub returns-clause-made : goal.returns-clause-made
returns-clause-made g c =
    let all : c.loop-i.i ≡ c.by_order-lines.result.0 = omega arith in
    let count : length c.loop-i.taken.items ≡ g.row.R * g.row.C =
    c.loop-i.invariant.slots.count ∙ (ap (λ x. x * c.by_order-lines.result.1) all ∙ product_by_order c.args.order g.row.R g.row.C _ c.by_order-lines.ensures) in
    let made = c.from_vec_with_order.ensures in
    record { order = made.order; size = made_size c.args.order _ _ _ _ c.from_vec_with_order.result.table made.storage made.cols count }

pub returns-clause-cells : goal.returns-clause-cells
returns-clause-cells g c =
    let all : c.loop-i.i ≡ c.by_order-lines.result.0 = omega arith in
    let whole : c.loop-i.i * c.by_order-lines.result.1 ≡ g.row.R * g.row.C =
    ap (λ x. x * c.by_order-lines.result.1) all ∙ product_by_order c.args.order g.row.R g.row.C _ c.by_order-lines.ensures in
    let count : length c.loop-i.taken.items ≡ g.row.R * g.row.C = c.loop-i.invariant.slots.count ∙ whole in
    let made = c.from_vec_with_order.ensures in
    record {
      held = held_all c.args.order g.row.R g.row.C _ c.args.cells.now _ _ _ c.loop-i.invariant.slots
          (λ r k lr lk. omega (arith, whole, place_within c.args.order g.row.R g.row.C r k lr lk))
          c.from_vec_with_order.result.table made.storage (made_size c.args.order _ _ _ _ c.from_vec_with_order.result.table made.storage made.cols count);
      emptied = λ r k lr lk. c.loop-i.invariant.slots.gone r k lr lk (omega (arith, whole, place_within c.args.order g.row.R g.row.C r k lr lk));
    }
