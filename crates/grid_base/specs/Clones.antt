-- What clones are to their source.
use Rattle.std.specs.Prelude.{◌≡◌}

-- each clone equals its source
abbrev pub ClonesAreEqual : {T : Type 0} → (T → T → Type 0) → Type 0
ClonesAreEqual {T} is_clone = (x y : T) → is_clone x y → y ≡ x
