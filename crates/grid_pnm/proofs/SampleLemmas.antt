-- Samples in decimals, one after another.
use Rattle.std.proofs.Common.{◌≡◌, ℕ, suc, ◌-◌, ◌<◌, List, [], ◌∷◌, ◌++◌, length, Result, Ok, Err, refl, ap, sym, ◌∙◌, arith, append_assoc, length-append}
use Rattle.grid_pnm.specs.declared.error.PnmError.{PnmError}
use Rattle.grid_pnm.specs.Header.{and_then}
use Rattle.grid_pnm.specs.Samples.{prepend, next_sample, plain_samples}

prepend-prepend : (xs ys : List ℕ) (r : Result (List ℕ) PnmError) → prepend xs (prepend ys r) ≡ prepend (xs ++ ys) r
prepend-prepend xs ys (Err e) = refl
prepend-prepend xs ys (Ok later) = ap Ok (sym (append_assoc xs ys later))

-- where some samples are left, after those before
module _ (len max count : ℕ) (before rest : List ℕ) (read : Result (List ℕ) PnmError) (some : length before < count)
    (so_far : read ≡ prepend before (plain_samples len max (count - length before) rest)) where
  next_is : (n : Result (ℕ × List ℕ) PnmError) → next_sample len max rest ≡ n → read ≡ prepend before (and_then n (λ sample. prepend (sample.0 ∷ []) (plain_samples len max (count - length before - 1) sample.1)))
  next_is n is =
      let one : count - length before ≡ suc (count - length before - 1) = omega arith in
      so_far ∙ (ap (λ k. prepend before (plain_samples len max k rest)) one
      ∙ ap (λ r. prepend before (and_then r (λ sample. prepend (sample.0 ∷ []) (plain_samples len max (count - length before - 1) sample.1)))) is)

  pub one_more : (sample : ℕ) (later after : List ℕ) → next_sample len max rest ≡ Ok (sample, later) → after ≡ before ++ sample ∷ [] → read ≡ prepend after (plain_samples len max (count - length after) later)
  one_more sample later after is put =
      let left : count - length before - 1 ≡ count - length after = omega (arith, ap length put, length-append before (sample ∷ [])) in
      next_is (Ok (sample, later)) is
      ∙ (prepend-prepend before (sample ∷ []) (plain_samples len max (count - length before - 1) later)
      ∙ (ap (λ xs. prepend xs (plain_samples len max (count - length before - 1) later)) (sym put)
      ∙ ap (λ k. prepend after (plain_samples len max k later)) left))

  pub no_more : (e : PnmError) → next_sample len max rest ≡ Err e → read ≡ Err e
  no_more e is = next_is (Err e) is
