-- Closures that count their calls.
use Rattle.std.proofs.Common.{◌≡◌, ℕ, ◌+◌, List, [], ◌∷◌, length, refl, ◌∙◌, ap, arith}
use Rattle.grid.specs.Prelude.{Generates}
use Rattle.std.specs.List.{FoldsTo, range_with_len}

-- a closure whose state has the number of its calls, and which answers that number
module _ {F : Type 0} (step : F → ℕ → F → Type 0) (calls : F → ℕ) (more : (p : F) (y : ℕ) (q : F) → step p y q → calls q ≡ calls p + 1) where
  pub calls_after : (f g : F) (ys : List ℕ) → FoldsTo step f ys g → calls g ≡ calls f + length ys
  calls_after f g [] a = omega (arith, ap calls a)
  calls_after f g (y ∷ ys) a = omega (arith, calls_after a.0 g ys a.2, more f y a.0 a.1)

  module _ (number : (p : F) (y : ℕ) (q : F) → step p y q → y ≡ calls p + 1) where
    numbers : (f g : F) (ys : List ℕ) → FoldsTo step f ys g → ys ≡ range_with_len (calls f + 1) (length ys)
    numbers f g [] a = refl
    numbers f g (y ∷ ys) a =
        let next : calls a.0 + 1 ≡ calls f + 1 + 1 = omega (arith, more f y a.0 a.1) in
        λ i. number f y a.0 a.1 i ∷ (numbers a.0 g ys a.2 ∙ ap (λ k. range_with_len k (length ys)) next) i

    pub numbers_from : (f : F) (ys : List ℕ) → Generates step f ys → ys ≡ range_with_len (calls f + 1) (length ys)
    numbers_from f ys r = numbers f r.last ys r.calls
