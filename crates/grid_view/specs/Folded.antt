-- What a closure that may change comes to over cells. No public clause cites this module.
use Rattle.std.specs.Prelude.{◌≡◌, List, ◌∷◌, ◌++◌}
use Rattle.std.specs.Fn.{Takes}
use Rattle.std.specs.Iterator.{FoldTurn}
use Rattle.std.specs.List.{FoldsTo}
use denote.Param.Members.{Mut}
use denote.Ref.{Bor}

module _ {F B A : Type 0} (calls : Mut F (B × (Bor A × Unit {0})) B) where
  -- the closure and the value so far go on to others at a reference to x
  abbrev pub GoesOnAt : F × B → A → F × B → Type 0
  GoesOnAt p x q = (b : Bor A) × (b.now ≡ x) × FoldTurn calls p b q

  -- the same over these cells, one after another
  abbrev pub GoesOver : F × B → List A → F × B → Type 0
  GoesOver p cells q = FoldsTo GoesOnAt p cells q

  -- the closure can be called at each of these cells, and what it comes to over those before it
  pub record CallableOver (p : F × B) (cells : List A) : Type 0 where
    pub at : (front : List A) (b : Bor A) (rest : List A) (q : F × B) → cells ≡ front ++ b.now ∷ rest
        → GoesOver p front q → Takes calls q.0 (q.1, (b, tt))
