use Rattle.std.proofs.Common.{◌≡◌, ◌*◌, length, sym, ◌∙◌, ap, arith, mul_comm}
use Rattle.grid_base.proofs.Common.{row_count, col_count, concat_rows, storage}
use Rattle.grid_base.specs.declared.order.Order.TheVariants.{ColumnMajor}
use Rattle.grid_base.specs.InPlace.{TransposedInPlace}
use Rattle.grid_base.proofs.StorageLemmas.{length-storage}
use Rattle.grid_base.proofs.TransposeLemmas.{in_place_storage}
use Rattle.grid_view.proofs.copy.clones_of.Goals as goal

pub transpose_in_place-requires-clause-cells : goal.transpose_in_place-requires-clause-cells
transpose_in_place-requires-clause-cells g c =
    let t = c.args.view.now.rows in
    let is : c.from_vec-flat.result ≡ storage ColumnMajor t = c.from_vec-flat.ensures ∙ (c.in_ok-clones_in_turn.ensures ∙ ap concat_rows c.transposed.ensures.rows) in
    let sides : c.size-rows.result.1 * c.size-rows.result.0 ≡ col_count t * row_count t = ap (λ x. x * c.size-rows.result.0) c.size-rows.ensures.cols ∙ ap (λ x. col_count t * x) c.size-rows.ensures.rows in
    omega (arith, ap length is, length-storage ColumnMajor t c.args.view.now.table, sides, mul_comm (row_count t) (col_count t))

pub returns : goal.returns
returns g c =
    let t = c.args.view.now.rows in
    let is : c.from_vec-flat.result ≡ storage ColumnMajor t = c.from_vec-flat.ensures ∙ (c.in_ok-clones_in_turn.ensures ∙ ap concat_rows c.transposed.ensures.rows) in
    let in_place : TransposedInPlace (col_count t) (row_count t) (storage ColumnMajor t) c.transpose_in_place.new.self =
    rw (sym is) (rw (sym c.size-rows.ensures.cols) (rw (sym c.size-rows.ensures.rows) c.transpose_in_place.ensures)) in
    c.into_vec.ensures ∙ in_place_storage t c.transpose_in_place.new.self c.args.view.now.table in_place
