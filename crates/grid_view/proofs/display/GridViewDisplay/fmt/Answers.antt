-- One more row, after a line feed where it isn't the first.
use Rattle.std.proofs.Common.{rules, ◌≡◌, take, arith, cond, ltb, [], ◌∷◌, Some, Ok, take_all}
use Rattle.grid_base.proofs.Common.{shows_then, shows_from, displays_from, get_or_default, row}
use Rattle.grid_view.specs.Texts.{items_text, lines_text}
use Rattle.grid_view.proofs.DisplayLemmas.{items-next}
use Rattle.grid_base.proofs.Common.{◌++?◌}
use Rattle.grid_view.proofs.display.GridViewDisplay.fmt.Goals as goal

pub loop-row-preserved : goal.loop-row-preserved
loop-row-preserved g c =
    let took = g.W.Write.write_str_gives in
    let text = items_text g.T.Display.output (32 ∷ []) [] in
    let t = c.args.self.now.rows in
    let r = c.loop-row.row in
    let more = items-next text (10 ∷ []) t r (row t r) (omega arith) (get_or_default t r [] (row t r) (omega arith)) in
    λ p.
    rw more (shows_then took c.args.f.now c.loop-row.f c.display_row.new.f (lines_text g.T.Display.output (take r t))
    (Some (cond (ltb 0 r) (10 ∷ []) []) ++? text (row t r)) (c.loop-row.invariant p)
    (λ plain. rw (← c.separator_before-before.ensures) (shows_from took c.loop-row.f c.display_row.new.f c.display_row.result _ c.display_row.ensures plain (search rules))))

pub returns-clause-writes : goal.returns-clause-writes
returns-clause-writes g c =
    let took = g.W.Write.write_str_gives in
    let t = c.args.self.now.rows in
    let all : take c.loop-row.row t ≡ t = take_all c.loop-row.row t (omega arith) in
    displays_from took c.args.f.now c.loop-row.f (Ok tt) (lines_text g.T.Display.output t) (λ p ok. rw all at (c.loop-row.invariant p))
