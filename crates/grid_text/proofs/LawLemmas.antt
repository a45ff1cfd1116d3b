-- A text that was written of a table is read as the table.
use Rattle.std.proofs.Common.{◌≡◌, ◌≢◌, ℕ, suc, ◌<◌, ◌≤◌, ◌==◌, true, false, Option, Ok, List, [], ◌∷◌, map, get_or, All, chars, encode_utf8_all, refl, arith, ⊎_elim, ne_eqb}
use Rattle.grid_text.proofs.Common.{scalars, NonePass, NoCharPasses, cases_lt, get_or_default, NoCharPasses-byte, chars-encodes, IsTable, lines_of, bad_char, reading, line_text, table_text, ReadsBack}
use Rattle.grid_text.proofs.BackLemmas.{IsWritten, table_back}

-- a text has no byte of an ASCII character that it doesn't have
no_byte : (k : ℕ) (cs : List ℕ) → NonePass (λ b. b == k) cs → k < 128 → All (λ b. (b == k) ≡ false) (encode_utf8_all cs)
no_byte k cs none small = λ i d lt.
    let bs : List ℕ = encode_utf8_all cs in
    let passes : NoCharPasses (λ b. b == k) bs = (cs, refl, none) in
    let zero_is : get_or bs i d ≡ get_or bs i 0 = get_or_default bs i d 0 lt in
    rw zero_is
    (⊎_elim (λ (low : get_or bs i 0 < 128). NoCharPasses-byte (λ b. b == k) bs i passes lt low)
    (λ (high : 128 ≤ get_or bs i 0). ne_eqb (get_or bs i 0) k (λ e. absurd (omega arith)))
    (cases_lt (get_or bs i 0) 128))

module _ {T : Type 0} (w : T → ℕ) (h : ℕ → Option T) where
  none_is : (k : ℕ) (row : List T) → ((x : T) → ReadsBack w h x → w x ≢ k) → All (ReadsBack w h) row → NonePass (λ b. b == k) (map w row)
  none_is k [] ne all = tt
  none_is k (x ∷ row) ne all = (ne_eqb (w x) k (ne x (all 0 x (omega arith))), none_is k row ne (λ i d lt. all (suc i) d (omega arith)))

  scalars_are : (row : List T) → All (ReadsBack w h) row → scalars (map w row) ≡ true
  scalars_are [] all = refl
  scalars_are (x ∷ row) all =
      let first = all 0 x (omega arith) in
      rw first.scalar (scalars_are row (λ i d lt. all (suc i) d (omega arith)))

  chars_are : (row : List T) → All (ReadsBack w h) row → chars (line_text w row) ≡ map w row
  chars_are row all = chars-encodes (map w row) (scalars_are row all)

  pub reads_back : (rows : List (List T)) → All (All (ReadsBack w h)) rows → IsTable rows → reading h (lines_of (table_text w rows)) ≡ Ok rows
  reads_back rows all table = table_back chars bad_char w h (line_text w) rows (λ i d lt. written (get_or rows i d) (all i d lt)) table
    where
      written : (row : List T) → All (ReadsBack w h) row → IsWritten chars bad_char w h (line_text w) row
      written row all = record {
        line = record {
          no_feed = no_byte 10 (map w row) (none_is 10 row (λ x back. back.no_feed) all) (omega arith);
          no_return = no_byte 13 (map w row) (none_is 13 row (λ x back. back.no_return) all) (omega arith);
        };
        parts_are = chars_are row all;
        reads = λ i d lt. (all i d lt).reads;
      }
