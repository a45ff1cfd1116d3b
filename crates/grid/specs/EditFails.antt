-- How an edit that adds lines fails: as too large exactly where the cells would be too many, and
-- with nothing changed.
use Rattle.std.specs.Prelude.{◌≡◌, ◌↔◌, ℕ, ◌+◌, List, [], length, Vec, Result, IsOk, IsErrOf, IsErrAnd, IfErr, OnErr}
use Rattle.grid_base.specs.Prelude.{col_count, items_of_each, GridValue}
use Rattle.grid_commands.specs.declared.error.GridError.{GridError}
use Rattle.grid_commands.specs.declared.error.GridError.TheVariants.{TooLarge}
use Rattle.grid_commands.specs.declared.error.LineRefused.{LineRefused}
use Rattle.grid_commands.specs.declared.error.LinesRefused.{LinesRefused}
use Rattle.grid.specs.Make.{ExceedsMax}
use Rattle.grid.specs.Edits.{padding_count}

module _ {T X : Type 0} where
  -- padding m lines of n cells each by count lines; where it adds nothing it never fails
  pub record PaddingFails (m n count : ℕ) (old new : GridValue T) (result : Result X GridError) :
      Type 0 where
    pub too_large : IsErrOf result TooLarge ↔ ExceedsMax (m + padding_count count old.rows) n
    pub none : padding_count count old.rows ≡ 0 → IsOk result
    pub unchanged : OnErr result (new ≡ old)

module _ {T A X : Type 0} where
  -- one line more than m; it comes back
  pub record LineFails (m : ℕ) (line : List T) (old new : GridValue T)
      (result : Result X (LineRefused T A)) : Type 0 where
    pub too_large : IsErrAnd result (λ refused. refused.fault ≡ TooLarge)
        ↔ ExceedsMax (m + 1) (length line)
    pub line_back : IfErr result (λ refused. refused.line.items ≡ line)
    pub unchanged : OnErr result (new ≡ old)

  -- several lines more than m, of one length; an empty list never fails
  pub record LinesFail (m : ℕ) (lines : List (Vec T A)) (old new : GridValue T)
      (result : Result X (LinesRefused T A)) : Type 0 where
    pub too_large : IsErrAnd result (λ refused. refused.fault ≡ TooLarge)
        ↔ ExceedsMax (m + length lines) (col_count (items_of_each lines))
    pub none : lines ≡ [] → IsOk result
    pub lines_back : IfErr result (λ refused. refused.lines.items ≡ lines)
    pub unchanged : OnErr result (new ≡ old)
