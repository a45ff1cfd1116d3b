use Rattle.std.proofs.Common.{◌≡◌, map, take, max, sym, ap, ◌∙◌, arith, flat_map, take_all}
use Rattle.grid_view.specs.Texts.{longest}
use Rattle.grid_view.proofs.TextLemmas.{longest_rows, joined_numbers, max_is}
use Rattle.grid_view.proofs.view.GridView.longest_number.Goals as goal

pub loop-row-preserved : goal.loop-row-preserved
loop-row-preserved g c =
    let w = g.T.Whole.whole in
    let t = c.args.self.now.rows in
    let i = c.loop-row.row in
    let found = c.in_ok-longest_in_row.field-0 in
    record {
      text = c.in_ok-longest_in_row.ensures.text;
      longest =
          c.max-longest.ensures
          ∙ (max_is c.loop-row.longest found
          ∙ ((λ k. max (c.loop-row.invariant.longest k) (c.in_ok-longest_in_row.ensures.longest k)) ∙ sym (longest_rows w t i (omega arith))));
    }

pub returns-clause-longest : goal.returns-clause-longest
returns-clause-longest g c =
    let w = g.T.Whole.whole in
    let t = c.args.self.now.rows in
    let all : take c.loop-row.row t ≡ t = take_all c.loop-row.row t (omega arith) in
    c.loop-row.invariant.longest ∙ ap longest (ap (flat_map (λ row. map w row)) all ∙ joined_numbers w t)
