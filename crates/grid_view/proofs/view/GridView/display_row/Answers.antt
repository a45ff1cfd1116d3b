-- One more cell, after a space where it isn't the first.
use Rattle.std.proofs.Common.{sym, rules, ◌≡◌, take, arith, cond, ltb, [], ◌∷◌, Some, Ok}
use Rattle.grid_base.proofs.Common.{shows_part_then, shows_from, displays_from, slice_get_within, get_or_from_slice_get, row}
use Rattle.grid_view.specs.Texts.{items_text}
use Rattle.grid_view.proofs.DisplayLemmas.{items-next}
use Rattle.grid_view.proofs.TextLemmas.{whole_row}
use Rattle.grid_base.proofs.Common.{◌++?◌}
use Rattle.grid_view.proofs.view.GridView.display_row.Goals as goal

pub loop-col-preserved : goal.loop-col-preserved
loop-col-preserved g c =
    let took = g.W.Write.write_str_gives in
    let text = g.T.Display.output in
    let line = row c.args.self.now.rows c.args.r in
    let i = c.loop-col.col in
    let x = c.get_unchecked-cell.result.now in
    let more = items-next text (32 ∷ []) line i x (slice_get_within line i x c.get_unchecked-cell.ensures) (sym (get_or_from_slice_get line i x x c.get_unchecked-cell.ensures)) in
    λ p.
    rw more (shows_part_then took c.args.f.now c.loop-col.f c.write-in-loop-col.new.self c.args.before.now (items_text text (32 ∷ []) [] (take i line))
    (Some (cond (ltb 0 i) (32 ∷ []) []) ++? text x) (c.loop-col.invariant p)
    (λ plain. rw (← c.separator_before-space.ensures) (shows_from took c.loop-col.f c.write-in-loop-col.new.self c.write-in-loop-col.result _ c.write-in-loop-col.ensures.writes plain (search rules))))

pub returns : goal.returns
returns g c =
    let took = g.W.Write.write_str_gives in
    let line = row c.args.self.now.rows c.args.r in
    let all : take c.loop-col.col line ≡ line = whole_row c.args.self.now.rows c.args.r c.loop-col.col c.args.self.now.table c.requires (omega arith) in
    displays_from took c.args.f.now c.loop-col.f (Ok tt) (Some c.args.before.now ++? items_text g.T.Display.output (32 ∷ []) [] line) (λ p ok. rw all at (c.loop-col.invariant p))
