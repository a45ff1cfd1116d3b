use Rattle.std.proofs.Common.{subst, ◌≡◌, ◌+◌, ◌*◌, ◌≤◌, min, max, length, refl, sym, ap, ◌∙◌, arith, mul-le-mul_right}
use Rattle.grid_base.proofs.Common.{Filled, Woven}
use Rattle.grid_base.proofs.Lemmas.{first_line, Unweaving, unweaving_none, unweaving_run, unweaving_end, with_waiting, unweave_step, none_waits, same_places, places_then, filled_join, filled_part, filled_below, filled_above}
use Rattle.grid_base.proofs.flat.room.unweave_row.Goals as goal

pub loop-line-init : goal.loop-line-init
loop-line-init g c =
    let groups = c.args.job.1 in
    let row = c.args.job.0 in
    let room = c.args.room in
    let reach = first_line groups.lines groups.width c.requires.row.lines in
    let within = groups.within in
    let cells = c.requires.row.cells in
    let count_0 = row.ok.0 in
    let none : 0 * groups.count ≡ 0 = omega arith in
    let fits : groups.at ≤ length row.items = omega arith in
    let now : with_waiting row.items room.items groups.at (0 * groups.count) ≡ row.items =
    ap (λ n. with_waiting row.items room.items groups.at n) none ∙ none_waits row.items room.items groups.at fits in
    record {
      run = subst (λ xs. Unweaving groups.lines groups.width groups.at groups.count 0 groups.at row.items xs) (sym now) (unweaving_none _ _ _ _ _ within);
      front = filled_part row.filled 0 row.len _ _ (omega arith) (omega arith) c.requires.row.full;
      back = filled_part row.filled 0 row.len _ _ (omega arith) (omega arith) c.requires.row.full;
      waits = λ k p q. absurd (omega arith);
      row = same_places row;
      room = same_places room;
      place = λ some. omega arith;
    }

pub move_within-requires : goal.move_within-requires
move_within-requires g c =
    let inv = c.loop-line.invariant in
    let groups = c.args.job.1 in
    let few = c.loop-line.line * groups.count in
    let start = c.loop-line.start in
    let row0 = c.loop-line.row in
    let rowm = c.move_group.new.from in
    let line : c.loop-line.line + 1 ≤ groups.lines = omega arith in
    let most : few + groups.count ≤ groups.lines * groups.count = omega (arith, mul-le-mul_right groups.count line) in
    let cells = c.requires.row.cells in
    let least = c.min-stretch.ensures in
    let long_0 = inv.row.count in
    let long_1 = c.move_group.ensures.places.0.count in
    let place = inv.place (omega arith) in
    (omega arith, omega arith, filled_above row0.filled rowm.filled _ _ _ _ (omega arith) c.move_group.ensures.left.1 (filled_part row0.filled (start + few) row0.len _ _ (omega arith) (omega arith) inv.back))

pub loop-line-preserved : goal.loop-line-preserved
loop-line-preserved g c =
    let inv = c.loop-line.invariant in
    let groups = c.args.job.1 in
    let few = c.loop-line.line * groups.count in
    let start = c.loop-line.start in
    let run = c.min-stretch.result in
    let line : c.loop-line.line + 1 ≤ groups.lines = omega arith in
    let more = mul-le-mul_right groups.width line in
    let most : few + groups.count ≤ groups.lines * groups.count = omega (arith, mul-le-mul_right groups.count line) in
    let all : (c.loop-line.line + 1) * groups.count ≡ few + groups.count = omega arith in
    let place = inv.place (omega arith) in
    let here : start ≡ groups.at + c.loop-line.line * groups.width = omega arith in
    let least = c.min-stretch.ensures in
    let cells = c.requires.row.cells in
    let room_fits = c.requires.room in
    let took = c.move_group.ensures in
    let moved = c.move_within.ensures in
    let row0 = c.loop-line.row in
    let rowm = c.move_group.new.from in
    let row2 = c.move_within.new.self in
    let room0 = c.loop-line.room in
    let room1 = c.move_group.new.other in
    let count_0 = row0.ok.0 in
    let count_1 = row2.ok.0 in
    let count_2 = room0.ok.0 in
    let long_0 = inv.row.count in
    let long_1 = took.places.0.count in
    let long_2 = moved.places.count in
    let long_3 = inv.room.count in
    let low : min (start + (few + groups.count)) start ≡ start = omega arith in
    let high : max (start + (few + groups.count)) start ≡ start + (few + groups.count) = omega arith in
    let front_1 : Filled rowm.filled 0 start = filled_below row0.filled rowm.filled _ _ _ _ (omega arith) took.left.1 inv.front in
    let back_1 : Filled rowm.filled (start + (few + groups.count)) row0.len =
    filled_above row0.filled rowm.filled _ _ _ _ (omega arith) took.left.1 (filled_part row0.filled (start + few) row0.len _ _ (omega arith) (omega arith) inv.back) in
    record {
      run = unweaving_run _ _ _ _ c.loop-line.line _ _ _ _ _ _ groups.within here (omega arith) least inv.run
          (unweave_step row0.items rowm.items room0.items room1.items row2.items start run few groups.count _ took.left.0 all (omega arith) (omega arith) (omega arith) took.items moved.moved moved.items) refl;
      front = filled_join row2.filled _ start _ (filled_below rowm.filled row2.filled _ _ _ _ (omega arith) moved.filled.1 front_1) moved.filled.0;
      back = filled_above rowm.filled row2.filled _ _ _ _ (omega arith) moved.filled.1 (filled_part rowm.filled (start + (few + groups.count)) row0.len _ _ (omega arith) (omega arith) back_1);
      waits = filled_part room1.filled 0 (few + groups.count) _ _ (omega arith) (omega arith) (filled_join room1.filled _ few _ (filled_below room0.filled room1.filled _ _ _ _ (omega arith) took.filled.1 inv.waits) took.filled.0);
      row = places_then inv.row (places_then took.places.0 moved.places);
      room = places_then inv.room took.places.1;
      place = λ _. omega arith;
    }

pub returns-clause-row : goal.returns-clause-row
returns-clause-row g c =
    let inv = c.loop-line.invariant in
    let groups = c.args.job.1 in
    let all : c.loop-line.line ≡ groups.lines = omega arith in
    let same = ap (λ v. v * groups.width) all in
    let place = inv.place c.requires.row.lines in
    let end : c.loop-line.start ≡ groups.lines * groups.width = omega arith in
    let put = c.move_run.ensures in
    let cells = c.requires.row.cells in
    let long_0 = inv.row.count in
    let long_1 = put.places.1.count in
    let row0 = c.loop-line.row in
    let row3 = c.move_run.new.other in
    record {
      places = places_then inv.row put.places.1;
      full = filled_join row3.filled _ (groups.lines * groups.width) _ (filled_below row0.filled row3.filled _ _ _ _ (omega arith) put.filled.1 (filled_part row0.filled 0 c.loop-line.start _ _ (omega arith) (omega arith) inv.front))
          (filled_part row3.filled (groups.lines * groups.width) (groups.lines * groups.width + groups.lines * groups.count) _ _ (omega arith) (omega arith) put.filled.0);
    }

pub returns-clause-woven : goal.returns-clause-woven
returns-clause-woven g c =
    let inv = c.loop-line.invariant in
    let groups = c.args.job.1 in
    let all : c.loop-line.line ≡ groups.lines = omega arith in
    let same = ap (λ v. v * groups.width) all in
    let place = inv.place c.requires.row.lines in
    let end : c.loop-line.start ≡ groups.lines * groups.width = omega arith in
    let put = c.move_run.ensures in
    let row = c.loop-line.row.items in
    let room = c.loop-line.room.items in
    let now : with_waiting row room c.loop-line.start (c.loop-line.line * groups.count) ≡ c.move_run.new.other.items =
    ap (λ s. with_waiting row room s (c.loop-line.line * groups.count)) end
    ∙ (ap (λ v. with_waiting row room (groups.lines * groups.width) (v * groups.count)) all ∙ sym put.items) in
    subst (λ xs. Woven groups.lines groups.width groups.at groups.count xs c.args.job.0.items) now
    (unweaving_end _ _ _ _ _ _ _ _ groups.within all (λ some. end) inv.run)
