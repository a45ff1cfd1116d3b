use Rattle.std.proofs.Common.{◌≡◌, Some, arith, refl, sym, vec_len, ◌∙◌, slice_get}
use Rattle.grid_base.proofs.Common.{slice_get_within, get_or_from_slice_get, positions_of}
use Rattle.grid_base.proofs.Lemmas.{answers_more, get_along, length-places}
use Rattle.grid_base.proofs.flat.all_cells.push_line.Goals as goal

pub f-requires : goal.f-requires
f-requires g c =
    let all = positions_of c.args.layout in
    let at = c.at-at.result in
    let here : slice_get all (vec_len c.loop-k.cells) ≡ Some at = get_along _ _ _ _ _ _ _ _ _ c.args.layout.size c.requires.line refl (omega (arith, c.loop-k-test.true, c.requires.width)) c.requires.passed c.loop-k.invariant.passed c.at-at.ensures in
    c.requires.calls.at _ at (slice_get_within all _ at here) (sym (get_or_from_slice_get all _ at at here))

pub push_reserved-requires : goal.push_reserved-requires
push_reserved-requires g c =
    let all = positions_of c.args.layout in
    let at = c.at-at.result in
    let here : slice_get all (vec_len c.loop-k.cells) ≡ Some at = get_along _ _ _ _ _ _ _ _ _ c.args.layout.size c.requires.line refl (omega (arith, c.loop-k-test.true, c.requires.width)) c.requires.passed c.loop-k.invariant.passed c.at-at.ensures in
    omega (arith, slice_get_within all _ at here, length-places c.args.layout.order c.args.layout.rows c.args.layout.cols c.args.layout.size, c.requires.room, c.loop-k.invariant.room)

pub loop-k-preserved : goal.loop-k-preserved
loop-k-preserved g c =
    let all = positions_of c.args.layout in
    let at = c.at-at.result in
    let i = c.loop-k.invariant in
    let p = c.push_reserved.ensures in
    let here : slice_get all (vec_len c.loop-k.cells) ≡ Some at = get_along _ _ _ _ _ _ _ _ _ c.args.layout.size c.requires.line refl (omega (arith, c.loop-k-test.true, c.requires.width)) c.requires.passed i.passed c.at-at.ensures in
    record {
      room = p.capacity ∙ i.room;
      passed = omega (arith, p.len, i.passed);
      answers = rw (p.len, p.items) (answers_more _ all _ _ at c.f.result here i.answers c.f.ensures);
    }
