-- Effects on lines through the flip of the rows and the transpose; every other symmetry is a word of these.
use Rattle.std.proofs.Common.{◌≡◌, List, map, reverse, sym, ◌∙◌, ap, subst, arith}
use Rattle.grid_deferred.proofs.Common.{length-reverse, length-map, row_count, col_count, IsTable, act, cols-act, IsTable-act, act-act, across-across, IsApplicable, table-after, effect-across}
use Rattle.grid_base.specs.declared.words.Symmetry.TheVariants.{FlipRows, FlipCols, Transpose}
use Rattle.grid_commands.specs.declared.command.Axis.TheVariants.{Row, Col}
use Rattle.grid.specs.Step.{Effect, nothing, inserts, removes, pads_end, pads_front, after_effect}
use Rattle.grid_deferred.proofs.MirrorLemmas.{flip_rows-is, flip_cols-is}
use Rattle.grid_deferred.proofs.EffectLemmas.{flipped_effect, reversed_effect, effect-flipped, effect-reversed, cols-flipped}

module _ {T : Type 0} where
  IsTable-reverse : (t : List (List T)) → IsTable t → IsTable (reverse t)
  IsTable-reverse t h = subst IsTable (flip_rows-is t h) (IsTable-act FlipRows t h)

  IsTable-reversed_rows : (t : List (List T)) → IsTable t → IsTable (map reverse t)
  IsTable-reversed_rows t h = subst IsTable (flip_cols-is t h) (IsTable-act FlipCols t h)

  cols-reversed_rows : (t : List (List T)) → IsTable t → col_count (map reverse t) ≡ col_count t
  cols-reversed_rows t h = ap col_count (sym (flip_cols-is t h)) ∙ cols-act FlipCols t h

  pub applicable-flipped : (x : Effect T) (t : List (List T)) → IsTable t → IsApplicable x (reverse t) → IsApplicable (flipped_effect (row_count t) x) t
  applicable-flipped nothing t h g = h
  applicable-flipped (inserts i ls) t h g =
      record {
        in_rows = omega (arith, g.in_rows, length-reverse t);
        old = h;
        new = IsTable-reverse ls g.new;
        width = λ some more. cols-flipped ls g.new ∙ (g.width (omega (arith, length-reverse t)) (omega (arith, length-reverse ls)) ∙ cols-flipped t h);
      }
  applicable-flipped (removes i k) t h g = record { is_table = h; in_rows = omega (arith, g.in_rows, length-reverse t) }
  applicable-flipped (pads_end k) t h g = h
  applicable-flipped (pads_front k) t h g = h

  pub applicable-reversed : (x : Effect T) (t : List (List T)) → IsTable t → IsApplicable x (map reverse t) → IsApplicable (reversed_effect x) t
  applicable-reversed nothing t h g = h
  applicable-reversed (inserts i ls) t h g =
      record {
        in_rows = omega (arith, g.in_rows, length-map t reverse);
        old = h;
        new = IsTable-reversed_rows ls g.new;
        width = λ some more. cols-reversed_rows ls g.new ∙ (g.width (omega (arith, length-map t reverse)) (omega (arith, length-map ls reverse)) ∙ cols-reversed_rows t h);
      }
  applicable-reversed (removes i k) t h g = record { is_table = h; in_rows = omega (arith, g.in_rows, length-map t reverse) }
  applicable-reversed (pads_end k) t h g = h
  applicable-reversed (pads_front k) t h g = h

  module _ (d : T) (x : Effect T) (t : List (List T)) (h : IsTable t) where
    pub rows-flip : IsApplicable x (act FlipRows t) → after_effect d Row x (act FlipRows t) ≡ act FlipRows (after_effect d Row (flipped_effect (row_count t) x) t)
    rows-flip g =
        let e = flip_rows-is t h in
        let k : IsApplicable x (reverse t) = subst (IsApplicable x) e g in
        ap (after_effect d Row x) e
        ∙ (effect-flipped d x t k h
        ∙ sym (flip_rows-is (after_effect d Row (flipped_effect (row_count t) x) t) (table-after d (flipped_effect (row_count t) x) t (applicable-flipped x t h k))))

    rows-reversed : IsApplicable x (act FlipCols t) → after_effect d Row x (act FlipCols t) ≡ act FlipCols (after_effect d Row (reversed_effect x) t)
    rows-reversed g =
        let e = flip_cols-is t h in
        let k : IsApplicable x (map reverse t) = subst (IsApplicable x) e g in
        ap (after_effect d Row x) e
        ∙ (effect-reversed d x t
        ∙ sym (flip_cols-is (after_effect d Row (reversed_effect x) t) (table-after d (reversed_effect x) t (applicable-reversed x t h k))))

    pub cols-transpose : IsApplicable x t → after_effect d Col x (act Transpose t) ≡ act Transpose (after_effect d Row x t)
    cols-transpose g =
        let v = act Transpose t in
        let e = across-across t h in
        effect-across d x v (IsTable-act Transpose t h) (subst (IsApplicable x) (sym e) g)
        ∙ ap (λ y. act Transpose (after_effect d Row x y)) e

  -- a flip of the rows, seen from the columns, is a flip of the columns
  pub flip-across : (t : List (List T)) → IsTable t → act Transpose (act FlipRows t) ≡ act FlipCols (act Transpose t)
  flip-across t h = act-act FlipRows Transpose t h ∙ sym (act-act Transpose FlipCols t h)

  flip-back : (t : List (List T)) → IsTable t → act Transpose (act FlipCols t) ≡ act FlipRows (act Transpose t)
  flip-back t h = act-act FlipCols Transpose t h ∙ sym (act-act Transpose FlipRows t h)

  pub cols-flip : (d : T) (x : Effect T) (t : List (List T)) → IsTable t → IsApplicable x (act Transpose (act FlipRows t)) → after_effect d Col x (act FlipRows t) ≡ act FlipRows (after_effect d Col (reversed_effect x) t)
  cols-flip d x t h g =
      let v = act Transpose t in
      let hv = IsTable-act Transpose t h in
      let e = flip-across t h in
      let k : IsApplicable x (act FlipCols v) = subst (IsApplicable x) e g in
      let transposed : IsApplicable (reversed_effect x) v = applicable-reversed x v hv (subst (IsApplicable x) (flip_cols-is v hv) k) in
      let w = after_effect d Row (reversed_effect x) v in
      effect-across d x (act FlipRows t) (IsTable-act FlipRows t h) g
      ∙ (ap (λ y. act Transpose (after_effect d Row x y)) e
      ∙ (ap (act Transpose) (rows-reversed d x v hv k)
      ∙ (flip-back w (table-after d (reversed_effect x) v transposed)
      ∙ ap (act FlipRows) (sym (effect-across d (reversed_effect x) t h transposed)))))
