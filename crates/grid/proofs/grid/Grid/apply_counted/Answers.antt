use Rattle.std.proofs.Common.{rules, ◌∙◌, ap}
use Rattle.grid.proofs.Common.{rows-act, cols-act}
use Rattle.grid.proofs.Lemmas.{after_transpose, from_its_flags, transpose_then_flips, price_of_flips, transposed_rows, transposed_cols}
use Rattle.grid_base.specs.Table.{row_count, col_count}
use Rattle.grid.proofs.grid.Grid.apply_counted.Goals.{then-transposes, else-transposes}
use Rattle.grid.proofs.grid.Grid.apply_counted.Goals as goal

pub returns-clause-rows : goal.returns-clause-rows
returns-clause-rows g c =
    elim c.if-transposes.branch [
      | then-transposes w ↦
          (let turned = ap (λ s. s.rows) w.self-is ∙ w.transpose.ensures.rows in
          let is = transpose_then_flips _ _ ∙ from_its_flags c.args.symmetry _ _ c.flags-transposes.ensures w.if-transposes.true in
          rw is at (after_transpose _ _ _ _ c.args.self.now.table turned c.flip_counted.ensures.rows))
      | else-transposes w ↦
          rw (from_its_flags c.args.symmetry _ _ c.flags-transposes.ensures w.if-transposes.false, w.self-is) at c.flip_counted.ensures.rows
    ]

pub returns-clause-symmetry : goal.returns-clause-symmetry
returns-clause-symmetry g c =
    elim c.if-transposes.branch [
      | then-transposes w ↦
          (let turned = ap (λ s. s.rows) w.self-is ∙ w.transpose.ensures.rows in
          let table = c.args.self.now.table in
          let is = from_its_flags c.args.symmetry _ _ c.flags-transposes.ensures w.if-transposes.true in
          rw (transposed_rows _ _ table turned, transposed_cols _ _ table turned, price_of_flips _ _ _ _, is) at c.flip_counted.ensures.symmetry)
      | else-transposes w ↦
          rw (from_its_flags c.args.symmetry _ _ c.flags-transposes.ensures w.if-transposes.false, w.self-is) at c.flip_counted.ensures.symmetry
    ]

pub returns-clause-size : goal.returns-clause-size
returns-clause-size g c = record {
  rows = ap row_count (returns-clause-rows g c) ∙ rows-act _ _;
  cols = ap col_count (returns-clause-rows g c) ∙ cols-act _ _ c.args.self.now.table;
}

pub returns-clause-order : goal.returns-clause-order
returns-clause-order g c = search rules

pub returns-clause-shift : goal.returns-clause-shift
returns-clause-shift g c = search rules
