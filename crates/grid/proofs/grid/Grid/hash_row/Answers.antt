use Rattle.std.proofs.Common.{◌≡◌, take, sym, ap, ◌∙◌, arith, flat_map, fold}
use Rattle.grid.proofs.Common.{fold-append, row, take_next}
use Rattle.grid.proofs.Lemmas.{flat_map_push, whole_row}
use Rattle.grid.proofs.grid.Grid.hash_row.Goals as goal

pub loop-col-preserved : goal.loop-col-preserved
loop-col-preserved g c =
    let feed = g.T.Hash.hash_input in
    let write = g.H.Hasher.write in
    let line = row c.args.self.now.rows c.args.r in
    let i = c.loop-col.col in
    let x = c.get_unchecked.result.now in
    let more = ap (flat_map feed) (take_next line i x c.get_unchecked.ensures) ∙ flat_map_push feed (take i line) x in
    c.hash.ensures
    ∙ (ap (λ s. fold write s (feed x)) c.loop-col.invariant
    ∙ (sym (fold-append write c.args.state.now (flat_map feed (take i line)) (feed x)) ∙ ap (fold write c.args.state.now) (sym more)))

pub returns : goal.returns
returns g c =
    let feed = g.T.Hash.hash_input in
    let t = c.args.self.now.rows in
    let all : take c.loop-col.col (row t c.args.r) ≡ row t c.args.r = whole_row t c.args.r c.loop-col.col c.args.self.now.table c.requires (omega arith) in
    c.loop-col.invariant ∙ ap (λ l. fold g.H.Hasher.write c.args.state.now (flat_map feed l)) all
