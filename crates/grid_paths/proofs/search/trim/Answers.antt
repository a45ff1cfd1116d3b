use Rattle.std.proofs.Common.{◌≡◌, ◌+◌, ◌-◌, ◌++◌, length, take, drop, sym, ap, ◌∙◌, arith, length-drop, length-take-le, take_all, take-append-drop}
use Rattle.grid_paths.proofs.Common.{paste, take-paste}
use Rattle.grid_paths.proofs.search.trim.Goals as goal

pub returns : goal.returns
returns g c =
    let queue = c.args.queue.now in
    let all = queue.items in
    let next = c.args.next in
    let front = take next all in
    let left = c.len-len.result - next in
    let long : length all ≡ c.len-len.result = omega (arith, queue.ok.0) in
    let same : left ≡ 0 + left = omega arith in
    let rest : length (drop next all) ≡ left = omega (arith, length-drop next all) in
    let kept = c.truncate.ensures.items ∙ (ap (take left) c.copy_within.ensures.items
    ∙ (ap (λ k. take k (paste all 0 (drop next all) left)) same ∙ (take-paste all 0 (drop next all) left (omega arith) (omega arith)
    ∙ take_all left (drop next all) (omega arith)))) in
    let passed : length front ≡ next = length-take-le next all c.requires in
    (front, sym (take-append-drop next all) ∙ ap (λ x. front ++ x) (sym kept), omega arith)
