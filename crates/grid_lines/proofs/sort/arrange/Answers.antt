-- One row more is where it is wanted, and in the end all do.
use Rattle.std.proofs.Common.{◌∙◌, [], refl, arith}
use Rattle.grid_lines.proofs.PlacingLemmas.{numbering, placing_start, placing_more, placed_all, place_fits, row_fits, held_fits, standing_fits}
use Rattle.grid_lines.proofs.sort.arrange.Goals as goal

pub loop-i-init : goal.loop-i-init
loop-i-init g c = record {
  numbering = numbering _ _ c.requires.wanted;
  placing = placing_start _ [] _ _ _ c.requires.holds c.requires.places;
  col_count = refl;
  order = refl;
}

pub bounds-places-row : goal.bounds-places-row
bounds-places-row g c = let i = c.loop-i.invariant in let r = row_fits _ [] _ _ _ _ _ i.numbering i.placing c.loop-i-test.true in omega (arith, r, i.placing.places_long)

pub bounds-holds-i : goal.bounds-holds-i
bounds-holds-i g c = let i = c.loop-i.invariant in let r = place_fits _ [] _ _ _ _ _ i.numbering i.placing c.loop-i-test.true in omega (arith, r, i.placing.holds_long)

pub swap-requires-clause-a_in_bounds : goal.swap-requires-clause-a_in_bounds
swap-requires-clause-a_in_bounds g c = let i = c.loop-i.invariant in let r = row_fits _ [] _ _ _ _ _ i.numbering i.placing c.loop-i-test.true in omega (arith, r, i.placing.places_long)

pub swap-requires-clause-b_in_bounds : goal.swap-requires-clause-b_in_bounds
swap-requires-clause-b_in_bounds g c = let i = c.loop-i.invariant in let r = held_fits _ [] _ _ _ _ _ i.numbering i.placing c.loop-i-test.true in omega (arith, r, i.placing.places_long)

pub swap-requires-in-loop-i-clause-a_in_bounds : goal.swap-requires-in-loop-i-clause-a_in_bounds
swap-requires-in-loop-i-clause-a_in_bounds g c = let i = c.loop-i.invariant in let r = place_fits _ [] _ _ _ _ _ i.numbering i.placing c.loop-i-test.true in omega (arith, r, i.placing.holds_long)

pub swap-requires-in-loop-i-clause-b_in_bounds : goal.swap-requires-in-loop-i-clause-b_in_bounds
swap-requires-in-loop-i-clause-b_in_bounds g c = let i = c.loop-i.invariant in let r = standing_fits _ [] _ _ _ _ _ i.numbering i.placing c.loop-i-test.true in omega (arith, r, i.placing.holds_long)

pub loop-i-preserved : goal.loop-i-preserved
loop-i-preserved g c =
    let i = c.loop-i.invariant in
    record {
      numbering = i.numbering;
      placing = rw (c.swap-in-loop-i.ensures.after, c.swap.ensures.after) (placing_more _ [] _ _ _ _ _ _ _ _ _ i.numbering (place_fits _ [] _ _ _ _ _ i.numbering i.placing c.loop-i-test.true) i.placing refl refl refl c.swap_rows.ensures.rows);
      col_count = c.swap_rows.ensures.same.cols ∙ i.col_count;
      order = c.swap_rows.ensures.same.order ∙ i.order;
    }

pub returns-clause-rows : goal.returns-clause-rows
returns-clause-rows g c =
    let i = c.loop-i.invariant in
    placed_all _ [] _ c.loop-i.i _ _ _ i.numbering i.placing (omega (arith, i.numbering.long))
