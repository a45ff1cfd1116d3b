use Rattle.std.proofs.Common.{rules, ◌≡◌, suc, ◌++◌, ◌∷◌, ◌<◌, [], length, get_or, drop, sym, ap, ◌∙◌, add-one, drop-cons, Some}
use Rattle.grid_json.proofs.Common.{view}
use Rattle.grid_json.proofs.Lemmas.{next_cell}
use Rattle.grid_json.proofs.read.cells_in.Goals as goal

pub loop-index-preserved : goal.loop-index-preserved
loop-index-preserved g c =
    let read = g.T.Cell.read in
    let content = g.T.Cell.content in
    let xs = c.args.items.now.items in
    let i = c.loop-index.index in
    let x = c.item-item.result in
    let held = c.loop-index.cells.items in
    let y = c.in-Some.cell in
    let pushed : c.push.new.self.items ≡ held ++ y ∷ [] = c.in_ok-push-in-Some.ensures.items in
    let is : x ≡ get_or xs i x = search rules in
    let within : i < length xs = search rules in
    let one : drop i xs ≡ x ∷ drop (suc i) xs = drop-cons xs i x within ∙ ap (λ z. z ∷ drop (suc i) xs) (sym is) in
    let said : read (view x) ≡ Some (content y) = sym (rw c.in-Some.is at c.in_ok-cell.ensures) in
    rw (add-one, pushed) (next_cell read view content _ xs i x held y one said c.loop-index.invariant)
