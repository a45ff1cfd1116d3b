-- What a read of a line replies.
use Rattle.std.proofs.Common.{◌≡◌, ℕ, ◌<◌, ◌≤◌, None, Some, List, [], IsTrue, nat_lt, refl, sym, ◌∙◌, ap, arith, slice_get, lt-ltb}
use Rattle.grid_deferred.proofs.Common.{slice_get-get_or, slice_get_past, row, row_count, col_count, act, read, lines, line_count, line_is, step_reply, line_at, along, rows-act}
use Rattle.grid_base.specs.declared.words.Symmetry.TheVariants.{Transpose}
use Rattle.grid_commands.specs.declared.command.Axis.{Axis}
use Rattle.grid_commands.specs.declared.command.Axis.TheVariants.{Row, Col}

module _ {T : Type 0} (t : List (List T)) where
  line-along : (a : Axis) (at : ℕ) → slice_get (along a t) at ≡ line_at a at t
  unfolding act
  line-along Row at = refl
  line-along Col at = refl

  rows-along : (a : Axis) → row_count (along a t) ≡ line_count a (row_count t) (col_count t)
  rows-along Row = refl
  rows-along Col = rows-act Transpose t

  module _ (a : Axis) (at : ℕ) (v : List (List T)) (seen : v ≡ along a t) where
    pub read_some : at < row_count v → line_is (Some (row v at)) ≡ step_reply (lines a (read at)) t
    unfolding step_reply
    read_some lt = ap line_is (sym (slice_get-get_or v at [] lt) ∙ (ap (λ u. slice_get u at) seen ∙ line-along a at))

    pub read_none : row_count v ≤ at → line_is None ≡ step_reply (lines a (read at)) t
    unfolding step_reply
    read_none le = ap line_is (sym (slice_get_past v at le) ∙ (ap (λ u. slice_get u at) seen ∙ line-along a at))

    pub read_takes : at < row_count v → IsTrue (nat_lt at (line_count a (row_count t) (col_count t)))
    read_takes lt = lt-ltb _ _ (omega (arith, lt, ap row_count seen, rows-along a))
