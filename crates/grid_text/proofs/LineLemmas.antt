-- The cells of one line, part by part.
use Rattle.std.proofs.Common.{◌≡◌, ℕ, ◌+◌, ◌≤◌, true, Option, Some, None, Result, Ok, Err, List, [], ◌∷◌, ◌++◌, length, encode_utf8, IsUtf8, inl, inr, refl, subst, sym, ap, ◌∙◌, arith, append_assoc, append-nil, length-append}
use Rattle.grid_text.proofs.Common.{scalars, IsScalar, and_parts, cons_from_encodes, length-encode, len_utf8_bounds, prepend, IsRow, MayReadLine}
use Rattle.grid_rows.specs.Rows.{RowsValue}
use Rattle.grid_rows.specs.Builder.{with_cells}
use Rattle.grid_rows.proofs.ReadingLemmas.{with_cells-more, with_cells-nil}
use Rattle.grid_text.specs.declared.error.TextError.{TextError}

pub prepend-nil : {X E : Type 0} (r : Result (List X) E) → prepend [] r ≡ r
prepend-nil (Ok ys) = refl
prepend-nil (Err e) = refl

pub prepend-prepend : {X E : Type 0} (xs ys : List X) (r : Result (List X) E) → prepend xs (prepend ys r) ≡ prepend (xs ++ ys) r
prepend-prepend xs ys (Ok zs) = ap Ok (sym (append_assoc xs ys zs))
prepend-prepend xs ys (Err e) = refl

-- a text begins with a character, not with any number
pub first_scalar : (text rest : List ℕ) (c : ℕ) → IsUtf8 text → text ≡ encode_utf8 c ++ rest → IsScalar c
first_scalar text rest c utf8 is =
    let parts = cons_from_encodes utf8.0 rest c (utf8.1.1 ∙ is) in
    scalar_of utf8.0 parts.0 parts.1 utf8.1.0
  where
    scalar_of : (cs es : List ℕ) → cs ≡ c ∷ es → scalars cs ≡ true → IsScalar c
    scalar_of cs es e all = (and_parts _ _ (rw e at all)).0

-- the cells of the first parts of a line, `count` of them, before those that are left
pub record LineSoFar {A T : Type 0} (bad : ℕ → ℕ → A → TextError) (R : A → Option T → Type 0) (line : ℕ) (all left : List A) (old new : RowsValue T) (count : ℕ) : Type 0 where
  pub row : List T
  pub put : new ≡ with_cells old row
  pub len : length row ≡ count
  pub counts : count + length left ≡ length all
  pub may : (later : Result (List T) TextError) → MayReadLine bad R line (count + 1) left later → MayReadLine bad R line 1 all (prepend row later)

module _ {A T : Type 0} (bad : ℕ → ℕ → A → TextError) (R : A → Option T → Type 0) (line : ℕ) (all : List A) (old : RowsValue T) where
  pub line_start : (left : List A) → left ≡ all → LineSoFar bad R line all left old old 0
  line_start left is = record {
    row = [];
    put = sym (with_cells-nil old);
    len = refl;
    counts = omega (arith, ap length is);
    may = λ later m. subst (MayReadLine bad R line 1 all) (sym (prepend-nil later)) (subst (λ xs. MayReadLine bad R line 1 xs later) is m);
  }

  module _ (left later : List A) (new : RowsValue T) (count : ℕ) (x : A) (i : LineSoFar bad R line all left old new count) (next : left ≡ x ∷ later) where
    pub line_room : count + 1 ≤ length all
    line_room = omega (arith, i.counts, ap length next)

    may_here : (read : Result (List T) TextError) → MayReadLine bad R line (count + 1) (x ∷ later) read → MayReadLine bad R line 1 all (prepend i.row read)
    may_here read m = i.may read (subst (λ xs. MayReadLine bad R line (count + 1) xs read) (sym next) m)

    pub line_more : (cell : T) (added : RowsValue T) → R x (Some cell) → added ≡ with_cells new (cell ∷ []) → LineSoFar bad R line all later old added (count + 1)
    line_more cell added gave push = record {
      row = i.row ++ cell ∷ [];
      put = with_cells-more old new added i.row cell i.put push;
      len = length-append i.row (cell ∷ []) ∙ ap (λ n. n + 1) i.len;
      counts = omega (arith, i.counts, ap length next);
      may = λ read m.
          subst (MayReadLine bad R line 1 all) (prepend-prepend i.row (cell ∷ []) read)
          (may_here (prepend (cell ∷ []) read) (inr (cell, read, gave, m, refl)));
    }

    pub line_bad : R x None → MayReadLine bad R line 1 all (Err (bad line (count + 1) x))
    line_bad gave = may_here (Err (bad line (count + 1) x)) (inl (gave, refl))

pub line_end : {A T : Type 0} (parts : List ℕ → List A) (bad : ℕ → ℕ → A → TextError) (R : A → Option T → Type 0) (line : ℕ) (text : List ℕ) (left : List A) (old new : RowsValue T) (count : ℕ) → LineSoFar bad R line (parts text) left old new count → left ≡ [] → IsRow parts bad R line text old new
line_end parts bad R line text left old new count i none =
    record {
      row = i.row;
      put = i.put;
      counts = i.len ∙ (omega (arith, ap length none, i.counts));
      may = subst (MayReadLine bad R line 1 (parts text)) (ap Ok (append-nil i.row)) (i.may (Ok []) (subst (λ xs. MayReadLine bad R line (count + 1) xs (Ok [])) (sym none) refl));
    }

-- a character more, of which each takes a byte at least
pub past_char : (text later : List ℕ) (c column n : ℕ) → column + length text ≤ n → text ≡ encode_utf8 c ++ later → column + 1 + length later ≤ n
past_char text later c column n fits next = omega (arith, fits, ap length next ∙ length-append (encode_utf8 c) later, length-encode c, (len_utf8_bounds c).0)
