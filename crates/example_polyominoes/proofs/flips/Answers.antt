use Rattle.std.proofs.Common.{◌≡◌, ◌∷◌, []}
use Rattle.grid_base.specs.declared.words.Symmetry.TheVariants.{AntiTranspose, FlipCols, FlipRows, Transpose}
use Rattle.grid_base.proofs.GroupLemmas.{normal_is}
use Rattle.grid_base.specs.declared.words.Move.TheVariants as moves
use Rattle.example_polyominoes.proofs.flips.Goals as goal

-- each word has one normal form
pub returns : goal.returns
returns c =
    let flip = moves.FlipCols in
    let turn = moves.RotateLeft in
    let e0 : c.reduce.result ≡ FlipCols = normal_is (flip ∷ []) _ c.reduce.ensures.normal in
    let e1 : c.reduce-2.result ≡ Transpose = normal_is (flip ∷ turn ∷ []) _ c.reduce-2.ensures.normal in
    let e2 : c.reduce-half.result ≡ FlipRows = normal_is (flip ∷ turn ∷ turn ∷ []) _ c.reduce-half.ensures.normal in
    let e3 : c.reduce-right.result ≡ AntiTranspose = normal_is (flip ∷ turn ∷ turn ∷ turn ∷ []) _ c.reduce-right.ensures.normal in
    cc
