-- One row more: it is kept, where it is or further in front, or it isn't.
use Rattle.std.proofs.Common.{◌≡◌, ◌<◌, ◌≤◌, [], ◌∷◌, ◌∙◌, length, take, get_or, arith, rules}
use Rattle.grid_base.proofs.Common.{get_or_default, filter_same}
use Rattle.grid_base.proofs.StrideLemmas.{lines_in_order}
use Rattle.grid_lines.proofs.RetainLemmas.{filtered_by, retaining_no, retaining_here, retaining_swap, retaining_all, kept_only}
use Rattle.grid_lines.proofs.retain.retain_rows.Given.{F-step}
use Rattle.grid_lines.proofs.retain.retain_rows.Goals.{then-f, then-kept-row, else-kept-row, else-f}
use Rattle.grid_lines.proofs.retain.retain_rows.Goals as goal

pub loop-row-preserved : goal.loop-row-preserved
loop-row-preserved g c =
    let i = c.loop-row.invariant.keeps in
    let now = c.loop-row.grid.rows in
    let x = c.iter_row.result in
    let lt : c.loop-row.row < length now = omega (arith, i.count) in
    let is : x ≡ get_or now c.loop-row.row x = c.iter_row.ensures.gives.0 ∙ get_or_default now c.loop-row.row [] x lt in
    let said : F-step g c.loop-row.f x c.f.result c.f.new.self = search rules in
    record {
      callable = record { at = λ xs. (c.loop-row.invariant.callable.at ((x, tt) ∷ xs)).1 c.f.result c.f.new.self c.f.ensures };
      keeps = elim c.if-f.branch [
        | then-f w ↦ elim w.if-kept-row.branch [
          | then-kept-row v ↦ rw (w.kept-is, w.grid-is, v.grid-is, v.swap_rows.ensures.rows) (retaining_swap _ _ _ _ _ _ _ _ x i lt is _ said w.if-f.true v.if-kept-row.true)
          | else-kept-row v ↦ rw (w.kept-is, w.grid-is, v.grid-is) (retaining_here _ _ _ _ _ _ _ _ x i lt is _ said w.if-f.true v.if-kept-row.false)
        ]
        | else-f w ↦ rw (w.kept-is, w.grid-is) (retaining_no _ _ _ _ _ _ _ _ x i lt is _ said w.if-f.false)
      ];
      order = elim c.if-f.branch [
        | then-f w ↦ elim w.if-kept-row.branch [
          | then-kept-row v ↦ rw (w.grid-is, v.grid-is) (v.swap_rows.ensures.same.order ∙ c.loop-row.invariant.order)
          | else-kept-row v ↦ rw (w.grid-is, v.grid-is) c.loop-row.invariant.order
        ]
        | else-f w ↦ rw w.grid-is c.loop-row.invariant.order
      ];
    }

pub returns-clause-rows : goal.returns-clause-rows
returns-clause-rows g c =
    let i = c.loop-row.invariant.keeps in
    let all : length c.args.grid.now.rows ≤ c.loop-row.row = omega arith in
    let left : c.delete_rows.new.self.rows ≡ take c.loop-row.kept c.loop-row.grid.rows =
    kept_only c.delete_rows.result c.loop-row.kept c.rows-rows.result c.loop-row.grid.rows _ c.delete_rows.ensures.found c.delete_rows.ensures.rows (omega (arith, i.behind)) (omega (arith, i.count)) in
    rw left (retaining_all _ _ _ _ _ _ _ i all)

pub returns-clause-pure : goal.returns-clause-pure
returns-clause-pure g c = λ test says. filter_same _ test _ says _ _ (returns-clause-rows g c)

pub returns-clause-always : goal.returns-clause-always
returns-clause-always g c = λ test says. filtered_by _ test says _ _ _ (returns-clause-rows g c)

pub returns-clause-along : goal.returns-clause-along
returns-clause-along g c = lines_in_order _
