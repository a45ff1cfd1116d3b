-- One more clone, and in the end all.
use Rattle.std.proofs.Common.{rules, ◌++◌, [], ◌∷◌, length, ap, ◌∙◌, sym, arith, append_assoc}
use Rattle.grid_base.proofs.Common.{same_from_all_zip}
use Rattle.grid_base.proofs.ClosureLemmas.{AllZip-append}
use Rattle.grid_base.proofs.flat.line_iter.clones_of_line.Goals as goal

pub loop-cell-preserved : goal.loop-cell-preserved
loop-cell-preserved g c =
    let i = c.loop-cell.invariant in
    let x = c.in-Some.cell.now in
    let copy = c.in_ok-copy.copy in
    record {
      can = search rules;
      finite = search rules;
      copies = record {
        front = i.copies.front ++ x ∷ [];
        whole = append_assoc i.copies.front (x ∷ []) c.next.new.self ∙ (ap (λ l. i.copies.front ++ l) (sym c.in-Some.ensures.steps) ∙ i.copies.whole);
        each = rw (c.push_reserved.ensures.items) (AllZip-append g.T.Clone.is_clone i.copies.front c.loop-cell.copies.items x copy i.copies.each c.in_ok-copy.ensures.cases);
      };
      room = omega (arith, ap length c.in-Some.ensures.steps);
    }

pub returns-clause-each : goal.returns-clause-each
returns-clause-each g c = search rules

pub returns-clause-equal : goal.returns-clause-equal
returns-clause-equal g c equal = same_from_all_zip g.T.Clone.is_clone _ _ (returns-clause-each g c) equal
