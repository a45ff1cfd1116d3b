use Rattle.std.proofs.Common.{rules, ◌≡◌, ◌∙◌, ◌*◌, ap, length}
use Rattle.grid.specs.Prelude.{row_count, col_count, storage}
use Rattle.std.specs.List.{range_with_len}
use Rattle.grid_base.proofs.StorageLemmas.{length-storage}
use Rattle.grid_callers.proofs.CountLemmas.{calls_after, numbers_from}
use Rattle.grid_callers.proofs.chains.number_cells.Goals as goal

pub fill_with-requires : goal.fill_with-requires
fill_with-requires g c = record {
  at = λ ys h fewer folds.
      let done = calls_after _ (λ f. f.0.now) (λ p y q s. search rules) _ h ys folds in
      search (rules, done, fewer, c.requires);
}

pub returns-clause-cells : goal.returns-clause-cells
returns-clause-cells g c =
    let filled = c.fill_with.ensures in
    let new = c.fill_with.new.self in
    let old = c.args.grid.now.rows in
    let number : length (storage new.order new.rows) ≡ row_count old * col_count old =
    length-storage new.order new.rows new.table ∙ (ap (λ m. m * col_count new.rows) filled.same.rows ∙ ap (λ n. row_count old * n) filled.same.cols) in
    numbers_from _ (λ f. f.0.now) (λ p y q s. search rules) (λ p y q s. search rules) _ _ filled.cells ∙ ap (range_with_len 1) number
