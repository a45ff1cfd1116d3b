use Rattle.std.proofs.Common.{rules, ◌≡◌, take, arith, [], ◌∷◌, Some, take_all}
use Rattle.grid_base.proofs.Common.{debug_list, shows_part_then, shows_from, displays_from, row}
use Rattle.grid_view.specs.Texts.{rows_text, table_text}
use Rattle.grid_view.proofs.DebugLemmas.{rows_next}
use Rattle.grid_view.proofs.text.GridViewDebug.fmt.Goals as goal

pub loop-row-preserved : goal.loop-row-preserved
loop-row-preserved g c =
    let took = g.W.Write.write_str_gives in
    let text = g.T.Debug.debug_output in
    let t = c.args.self.now.rows in
    let r = c.loop-row.row in
    let more = rows_next text t r (omega arith) in
    λ p.
    rw more (shows_part_then took c.args.f.now c.loop-row.f c.write_row.new.f (91 ∷ []) (rows_text text (take r t))
    (debug_list text (row t r)) (c.loop-row.invariant p)
    (λ plain. shows_from took c.loop-row.f c.write_row.new.f c.write_row.result _ c.write_row.ensures plain (search rules)))

pub returns : goal.returns
returns g c =
    let took = g.W.Write.write_str_gives in
    let text = g.T.Debug.debug_output in
    let t = c.args.self.now.rows in
    let all : take c.loop-row.row t ≡ t = take_all c.loop-row.row t (omega arith) in
    record {
      writes = displays_from took c.args.f.now c.write-2.new.self c.write-2.result (table_text text t) (λ p ok.
          shows_part_then took c.args.f.now c.loop-row.f c.write-2.new.self (91 ∷ []) (rows_text text t) (Some (93 ∷ []))
          (rw all at (c.loop-row.invariant p))
          (λ plain. c.write-2.ensures.writes plain ok));
    }
