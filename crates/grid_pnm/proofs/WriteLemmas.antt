-- The samples of cells, one after another.
use Rattle.std.proofs.Common.{◌≡◌, ℕ, ◌+◌, List, [], ◌∷◌, ◌++◌, take, codes, subst, ap, sym, ◌∙◌, append_assoc}
use Rattle.std.proofs.lemmas.List.Folds.{flat_map-map}
use Rattle.grid_base.proofs.Common.{AllZip, row_count, col_count, concat_rows}
use Rattle.grid_base.proofs.ClosureLemmas.{AllZip-append, pairs_pure}
use Rattle.grid.proofs.ConversionLemmas.{AllZip-concat_rows}
use Rattle.grid_pnm.specs.Writing.{MayDrawGrays, MayDrawColors, raw_picture, pgm_bytes, ppm_bytes}
use Rattle.grid_pnm.proofs.LawLemmas.{flat-mapped, raster-concat}

-- the sample of one more cell
pub sample_may : {T : Type 0} (R : T → ℕ → Type 0) (cells : List T) (i : ℕ) (x : T) (sample : ℕ) (before now next : List ℕ) → take (i + 1) cells ≡ take i cells ++ x ∷ [] → (samples : List ℕ) × AllZip R (take i cells) samples × (now ≡ before ++ samples) → R x sample → next ≡ now ++ sample ∷ [] → (samples : List ℕ) × AllZip R (take (i + 1) cells) samples × (next ≡ before ++ samples)
sample_may R cells i x sample before now next more (samples, are, so_far) gave put =
    (samples ++ sample ∷ [], subst (λ xs. AllZip R xs (samples ++ sample ∷ [])) (sym more) (AllZip-append R (take i cells) samples x sample are gave), put ∙ (ap (λ y. y ++ sample ∷ []) so_far ∙ append_assoc before samples (sample ∷ [])))

-- where the samples of answers are joined, and so are those of all cells that are left: a part of these
module _ {T X : Type 0} (R : T → X → Type 0) (joined : List X → List ℕ) (P : List ℕ → Type 0) where
  pub part_may : ((xs ys : List X) → joined (xs ++ ys) ≡ joined xs ++ joined ys) → (left part later : List T) (answers : List X) (before added : List ℕ) → ((rest : List X) → AllZip R left rest → P (before ++ joined rest)) → left ≡ part ++ later → AllZip R part answers → added ≡ before ++ joined answers → (rest : List X) → AllZip R later rest → P (added ++ joined rest)
  part_may joins left part later answers before added so_far is gave put rest m =
      let e : before ++ joined (answers ++ rest) ≡ added ++ joined rest =
      ap (λ x. before ++ x) (joins answers rest) ∙ (sym (append_assoc before (joined answers) (joined rest)) ∙ ap (λ x. x ++ joined rest) (sym put)) in
      subst P e (so_far (answers ++ rest) (subst (λ xs. AllZip R xs (answers ++ rest)) (sym is) (AllZip-concat_rows R part later answers rest gave m)))

-- where h gives each answer, the picture that may be drawn is that of h
pub drawn_grays : {T : Type 0} (R : T → ℕ → Type 0) (h : T → ℕ) → ((x : T) (y : ℕ) → R x y → y ≡ h x) → (rows : List (List T)) (bytes : List ℕ) → MayDrawGrays R rows bytes → bytes ≡ pgm_bytes h rows
drawn_grays R h said rows bytes drawn =
    drawn.is_picture ∙ ap (raw_picture (codes "P5") (row_count rows) (col_count rows)) (pairs_pure {R = R} {xs = concat_rows rows} {ys = drawn.samples} (record { places = drawn.are_samples }) h said ∙ sym (flat-mapped h rows))

pub drawn_colors : {T : Type 0} (R : T → List ℕ → Type 0) (h : T → List ℕ) → ((x : T) (y : List ℕ) → R x y → y ≡ h x) → (rows : List (List T)) (bytes : List ℕ) → MayDrawColors R rows bytes → bytes ≡ ppm_bytes h rows
drawn_colors R h said rows bytes drawn =
    let cells = concat_rows rows in
    drawn.is_picture
    ∙ ap (raw_picture (codes "P6") (row_count rows) (col_count rows)) (ap concat_rows (pairs_pure {R = R} {xs = cells} {ys = drawn.colors} (record { places = drawn.are_colors }) h said) ∙ (flat_map-map (λ color. color) h cells ∙ sym (raster-concat h rows)))
