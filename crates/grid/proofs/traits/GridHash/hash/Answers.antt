use Rattle.std.proofs.Common.{take, sym, ap, ◌∙◌, arith, flat_map, fold}
use Rattle.grid.proofs.Common.{fold-append, row}
use Rattle.grid.proofs.Lemmas.{flat_map_next}
use Rattle.grid.proofs.traits.GridHash.hash.Goals as goal

pub loop-row-preserved : goal.loop-row-preserved
loop-row-preserved g c =
    let feed = flat_map g.T.Hash.hash_input in
    let write = g.H.Hasher.write in
    let t = c.args.self.now.rows in
    let i = c.loop-row.row in
    let more = flat_map_next (λ line. feed line) t i (omega arith) in
    c.hash_row.ensures
    ∙ (ap (λ s. fold write s (feed (row t i))) c.loop-row.invariant
    ∙ (sym (fold-append write _ (flat_map (λ line. feed line) (take i t)) (feed (row t i))) ∙ ap (fold write _) (sym more)))
