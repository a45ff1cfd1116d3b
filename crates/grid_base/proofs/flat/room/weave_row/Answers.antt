use Rattle.std.proofs.Common.{subst, ◌≡◌, ◌+◌, ◌-◌, ◌*◌, ◌≤◌, min, max, length, refl, ap, ◌∙◌, arith, mul-le-mul_right}
use Rattle.grid_base.proofs.Common.{Filled, Woven}
use Rattle.grid_base.proofs.Lemmas.{times_less, first_line, weaving_run, weaving_end, with_waiting, weave_step, none_waits, places_then, filled_join, filled_part, filled_below, filled_above}
use Rattle.grid_base.proofs.flat.room.weave_row.Goals as goal

pub loop-line-preserved : goal.loop-line-preserved
loop-line-preserved g c =
    let inv = c.loop-line.invariant in
    let groups = c.args.job.1 in
    let h = c.loop-line.line - 1 in
    let few = h * groups.count in
    let start = groups.at + h * groups.width in
    let run = c.loop-line.end - start in
    let is_line : c.loop-line.line ≡ h + 1 = omega arith in
    let line : h + 1 ≤ groups.lines = omega arith in
    let some = times_less c.loop-line.line groups.width (omega arith) in
    let before : h * groups.width + groups.width ≤ groups.lines * groups.width = omega (arith, mul-le-mul_right groups.width line) in
    let all : c.loop-line.line * groups.count ≡ few + groups.count = ap (λ v. v * groups.count) is_line ∙ omega arith in
    let most : few + groups.count ≤ groups.lines * groups.count = omega (arith, mul-le-mul_right groups.count line) in
    let cells = c.requires.row.cells in
    let room_fits = c.requires.room in
    let moved = c.move_within.ensures in
    let put = c.move_group.ensures in
    let row0 = c.loop-line.row in
    let row1 = c.move_within.new.self in
    let row2 = c.move_group.new.other in
    let room0 = c.loop-line.room in
    let room2 = c.move_group.new.from in
    let count_0 = row0.ok.0 in
    let count_1 = row1.ok.0 in
    let count_2 = room0.ok.0 in
    let long_0 = inv.row.count in
    let long_1 = moved.places.count in
    let long_2 = put.places.1.count in
    let long_3 = inv.room.count in
    let end : c.loop-line.end ≡ start + run = omega arith in
    let low : min start (start + (few + groups.count)) ≡ start = omega arith in
    let high : max start (start + (few + groups.count)) ≡ start + (few + groups.count) = omega arith in
    let back_1 : Filled row1.filled (start + (few + groups.count)) row0.len =
    filled_join row1.filled _ (start + (few + groups.count) + run) _ moved.filled.0
    (filled_above row0.filled row1.filled _ _ _ _ (omega arith) moved.filled.1 (filled_part row0.filled (c.loop-line.end + c.loop-line.line * groups.count) row0.len _ _ (omega arith) (omega arith) inv.back)) in
    let front_1 : Filled row1.filled 0 start = filled_below row0.filled row1.filled _ _ _ _ (omega arith) moved.filled.1 (filled_part row0.filled 0 c.loop-line.end _ _ (omega arith) (omega arith) inv.front) in
    record {
      run = weaving_run _ _ _ _ _ h _ _ _ _ _ _ is_line groups.within (omega arith) refl (omega arith) (omega arith) refl inv.run
          (weave_step row0.items room0.items room2.items row1.items row2.items start run few groups.count _ _ _ put.left.0 end all (omega arith) (omega arith) (omega arith) (omega arith) moved.moved moved.items put.items);
      front = filled_below row1.filled row2.filled _ _ _ _ (omega arith) put.filled.1 front_1;
      back = filled_join row2.filled _ (start + few + groups.count) _ put.filled.0
          (filled_above row1.filled row2.filled _ _ _ _ (omega arith) put.filled.1 (filled_part row1.filled (start + (few + groups.count)) row0.len _ _ (omega arith) (omega arith) back_1));
      waits = filled_below room0.filled room2.filled _ _ _ _ (omega arith) put.left.1 (filled_part room0.filled 0 (c.loop-line.line * groups.count) _ _ (omega arith) (omega arith) inv.waits);
      row = places_then inv.row (places_then moved.places put.places.1);
      room = places_then inv.room put.places.0;
      within = omega arith;
      place = omega arith;
    }

pub returns-clause-woven : goal.returns-clause-woven
returns-clause-woven g c =
    let inv = c.loop-line.invariant in
    let groups = c.args.job.1 in
    let none : c.loop-line.line ≡ 0 = omega arith in
    let gone = ap (λ v. v * groups.width) none in
    let none_left : c.loop-line.line * groups.count ≡ 0 = ap (λ v. v * groups.count) none ∙ omega arith in
    let row = c.loop-line.row in
    let cells = c.requires.row.cells in
    let count_0 = row.ok.0 in
    let long_0 = inv.row.count in
    let fits : c.loop-line.end ≤ length row.items = omega arith in
    let now : with_waiting row.items c.loop-line.room.items c.loop-line.end (c.loop-line.line * groups.count) ≡ row.items =
    ap (λ n. with_waiting row.items c.loop-line.room.items c.loop-line.end n) none_left ∙ none_waits row.items c.loop-line.room.items c.loop-line.end fits in
    subst (λ xs. Woven groups.lines groups.width groups.at groups.count c.args.job.0.items xs) now
    (weaving_end _ _ _ _ _ _ _ _ groups.within none
    (λ some. let reach = first_line groups.lines groups.width some in omega arith) inv.run)
