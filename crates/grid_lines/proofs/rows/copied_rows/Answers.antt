-- One more row, and in the end all.
use Rattle.std.proofs.Common.{rules, ◌<◌, ◌∷◌, [], length, map, subst, arith}
use Rattle.grid_base.proofs.Common.{map-append, slice_get-get_or, AllZip, row}
use Rattle.grid_base.proofs.ClosureLemmas.{answers_more}
use Rattle.grid_lines.proofs.CopyLemmas.{cloned_all}
use Rattle.grid_lines.proofs.rows.copied_rows.Goals as goal

pub loop-r-preserved : goal.loop-r-preserved
loop-r-preserved g c =
    let i = c.loop-r.invariant in
    let t = c.args.view.now.rows in
    let lt : c.loop-r.r < length t = omega arith in
    let each = subst (λ l. AllZip g.T.Clone.is_clone l c.in_ok-row.row.items) c.iter_row.ensures.gives.0 c.in_ok-row.ensures.each in
    record {
      copies = rw (c.push_reserved.ensures.items, map-append (λ row. row.items) c.loop-r.rows.items (c.in_ok-row.row ∷ []))
          (answers_more (AllZip g.T.Clone.is_clone) t c.loop-r.r (map (λ row. row.items) c.loop-r.rows.items) (row t c.loop-r.r) c.in_ok-row.row.items (slice_get-get_or t c.loop-r.r [] lt) i.copies each);
      len = search rules;
      room = search rules;
    }

pub returns : goal.returns
returns g c = cloned_all _ _ _ c.loop-r.r (omega arith) c.loop-r.invariant.copies
