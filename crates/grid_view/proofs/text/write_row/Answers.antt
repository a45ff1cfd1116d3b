use Rattle.std.proofs.Common.{sym, rules, ◌≡◌, take, arith, cond, ltb, [], ◌∷◌, Some, take_all}
use Rattle.grid_base.proofs.Common.{◌++?◌, comma_space, debug_items, debug_list, shows_part_then, shows_from, displays_from, debug_items-take, row, slice_get_within, get_or_from_slice_get}
use Rattle.grid_view.proofs.text.write_row.Goals as goal

pub loop-col-preserved : goal.loop-col-preserved
loop-col-preserved g c =
    let took = g.W.Write.write_str_gives in
    let text = g.T.Debug.debug_output in
    let line = row c.args.view.now.rows c.args.r in
    let i = c.loop-col.col in
    let x = c.get_unchecked-cell.result.now in
    let more = debug_items-take text line i x (slice_get_within line i x c.get_unchecked-cell.ensures) (sym (get_or_from_slice_get line i x x c.get_unchecked-cell.ensures)) in
    λ p.
    rw more (shows_part_then took c.args.f.now c.loop-col.f c.write-in-loop-col.new.self (91 ∷ []) (debug_items text [] (take i line))
    (Some (cond (ltb 0 i) comma_space []) ++? text x) (c.loop-col.invariant p)
    (λ plain. rw (← c.separator_before-comma.ensures) (shows_from took c.loop-col.f c.write-in-loop-col.new.self c.write-in-loop-col.result _ c.write-in-loop-col.ensures.writes plain (search rules))))

pub returns : goal.returns
returns g c =
    let took = g.W.Write.write_str_gives in
    let text = g.T.Debug.debug_output in
    let line = row c.args.view.now.rows c.args.r in
    let all : take c.loop-col.col line ≡ line = take_all c.loop-col.col line (omega (arith, c.args.view.now.table.even c.args.r c.requires)) in
    displays_from took c.args.f.now c.write-2.new.self c.write-2.result (debug_list text line) (λ p ok.
    shows_part_then took c.args.f.now c.loop-col.f c.write-2.new.self (91 ∷ []) (debug_items text [] line) (Some (93 ∷ []))
    (rw all at (c.loop-col.invariant p))
    (λ plain. c.write-2.ensures.writes plain ok))
