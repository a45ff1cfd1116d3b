use Rattle.std.proofs.Common.{◌≡◌, ◌≤◌, length, refl, ◌∙◌, arith}
use Rattle.grid_paths.proofs.Common.{length-map, slice_get_read, with_cell, rows-written, cols-with_cell, places}
use Rattle.grid_paths.proofs.Lemmas.{in_range_as, Contains-from_get, places_at, IsWritten-start, IsWritten-next, IsWritten-all}
use Rattle.grid_paths.proofs.region.fill_all.Goals as goal

pub loop-x-init : goal.loop-x-init
loop-x-init g c =
    record {
      same = record { rows = refl; cols = refl; order = refl };
      written = IsWritten-start c.args.value (places c.args.taken.now) c.args.grid.now.rows;
    }

pub index_mut-requires : goal.index_mut-requires
index_mut-requires g c =
    let taken = c.args.taken.now in
    let i = c.loop-x.x-index in
    let x = c.x-item.result in
    let same = c.loop-x.invariant.same in
    let place = places_at taken i x (slice_get_read taken (length taken) i x refl c.loop-x-test.true c.x-item.is) in
    in_range_as c.args.grid.now.rows c.loop-x.grid.rows same.rows same.cols x.0 (c.requires x.0 (Contains-from_get (places taken) i x.0 place))

pub loop-x-preserved : goal.loop-x-preserved
loop-x-preserved g c =
    let taken = c.args.taken.now in
    let i = c.loop-x.x-index in
    let x = c.x-item.result in
    let t = c.args.grid.now.rows in
    let u = c.loop-x.grid in
    let place = places_at taken i x (slice_get_read taken (length taken) i x refl c.loop-x-test.true c.x-item.is) in
    let same = c.loop-x.invariant.same in
    let here = in_range_as t u.rows same.rows same.cols x.0 (c.requires x.0 (Contains-from_get (places taken) i x.0 place)) in
    let value = c.args.value in
    record {
      same = record {
        rows = rows-written u.rows (x.0).0 (x.0).1 value ∙ same.rows;
        cols = cols-with_cell u.rows u.table (x.0).0 (x.0).1 value ∙ same.cols;
        order = same.order;
      };
      written = IsWritten-next value (places taken) t u.rows u.table i c.loop-x.invariant.written x.0 place here (with_cell u.rows (x.0).0 (x.0).1 value) refl;
    }

pub returns-clause-written : goal.returns-clause-written
returns-clause-written g c =
    let taken = c.args.taken.now in
    let i = c.loop-x.x-index in
    let long : length (places taken) ≡ length taken = length-map taken (λ y. y.0) in
    let end : length (places taken) ≤ i = omega arith in
    IsWritten-all c.args.value (places taken) c.args.grid.now.rows c.loop-x.grid.rows c.loop-x.grid.table i c.loop-x.invariant.written end
