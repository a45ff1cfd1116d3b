use Rattle.std.proofs.Common.{◌≡◌, ◌++◌, [], map, take, length, max, sym, ap, ◌∙◌, arith, string_bytes, to_z, of_z}
use Rattle.grid_base.proofs.Common.{w128, to_z-of_z, signed_decimal, row}
use Rattle.grid_view.specs.Texts.{longest}
use Rattle.grid_view.proofs.TextLemmas.{longest_next, max_is, whole_row}
use Rattle.grid_view.proofs.view.GridView.longest_in_row.Goals as goal

pub loop-col-preserved : goal.loop-col-preserved
loop-col-preserved g c =
    let w = g.T.Whole.whole in
    let line = row c.args.self.now.rows c.args.r in
    let i = c.loop-col.col in
    let x = c.get_unchecked.result.now in
    let next = longest_next w line i x c.get_unchecked.ensures in
    record {
      text = c.clear.ensures.bytes;
      longest =
          let start : string_bytes c.loop-col.text ≡ [] = c.loop-col.invariant.text in
          let z = c.to_whole-number.result in
          let same : to_z w128 (of_z w128 z) ≡ z = to_z-of_z w128 z (record { sfits = c.to_whole-number.type_inv }) in
          let shown : string_bytes c.write.new.self ≡ signed_decimal (w x) =
          c.in_ok-write.ensures.bytes
          ∙ (ap (λ l. l ++ signed_decimal (to_z w128 (of_z w128 z))) start ∙ ap signed_decimal (same ∙ c.to_whole-number.ensures)) in
          let larger = c.max-longest.ensures ∙ max_is c.loop-col.longest (length c.as_str.result.now) in
          larger ∙ (ap (λ n. max n (length c.as_str.result.now)) c.loop-col.invariant.longest
          ∙ (ap (λ n. max (longest (map w (take i line))) (length n)) (c.as_str.ensures.value ∙ shown) ∙ sym next));
    }

pub returns-clause-longest : goal.returns-clause-longest
returns-clause-longest g c =
    let w = g.T.Whole.whole in
    let t = c.args.self.now.rows in
    let all : take c.loop-col.col (row t c.args.r) ≡ row t c.args.r = whole_row t c.args.r c.loop-col.col c.args.self.now.table c.requires.row (omega arith) in
    c.loop-col.invariant.longest ∙ ap (λ l. longest (map w l)) all
