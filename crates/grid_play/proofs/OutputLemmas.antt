-- What a run writes: the lines of the replies, and the text of the rows.
use Rattle.std.proofs.Common.{◌≡◌, ◌⊎◌, inl, inr, ℕ, List, [], ◌∷◌, ◌++◌, refl, ap, ℤ, pos, append_assoc, Option, Some, Ok, Err, codes, flat_map}
use Rattle.grid.specs.Prelude.{run_rows, run_replies, CommandValue, ReplyValue}
use Rattle.std.specs.Fmt.{debug_items, debug_list, signed_decimal, with_newline}
use Rattle.grid.specs.Prelude.{rows_text, table_text}
use Rattle.grid_play.specs.declared.fault.ScriptFault.{ScriptFault}
use Rattle.grid_play.specs.declared.fault.ScriptFault.TheVariants.{Memory}
use Rattle.grid_play.specs.Script.{ScriptValue, script_of}
use Rattle.grid_play.specs.Output.{reply_line, row_text, rows_line, output_of, script_output}

abbrev cell_text : ℤ → Option (List ℕ)
cell_text z = Some (signed_decimal z)

items_are : (cells : List ℤ) → debug_items cell_text (44 ∷ 32 ∷ []) cells ≡ Some (flat_map (λ z. codes ", " ++ signed_decimal z) cells)
items_are [] = refl
items_are (z ∷ cells) = rw (items_are cells) refl

row_is : (cells : List ℤ) → debug_list cell_text cells ≡ Some (row_text cells)
row_is [] = refl
row_is (z ∷ cells) = rw (items_are cells) refl

rows_are : (t : List (List ℤ)) → rows_text cell_text t ≡ Some (flat_map row_text t)
rows_are [] = refl
rows_are (row ∷ t) = rw (row_is row, rows_are t) refl

pub table_is : (t : List (List ℤ)) → with_newline (table_text cell_text t) ≡ Some (rows_line t)
table_is t = rw (rows_are t) (ap (λ text. Some (91 ∷ text)) (append_assoc (flat_map row_text t) (93 ∷ []) (10 ∷ [])))

pub script_fails : (input : List ℕ) (fault : ScriptFault) → (fault ≡ Memory) ⊎ (script_of input ≡ Err fault) → (fault ≡ Memory) ⊎ (script_output input ≡ Err fault)
unfolding script_output
script_fails input fault (inl memory) = inl memory
script_fails input fault (inr bad) = inr (rw bad refl)

pub script_ends : (input : List ℕ) (s : ScriptValue) (commands : List (CommandValue ℤ)) (t after : List (List ℤ)) (answers : List (ReplyValue ℤ)) (start lines out : List ℕ) → script_of input ≡ Ok s → commands ≡ s.commands → t ≡ s.grid.rows → answers ≡ run_replies (pos 0) commands t → after ≡ run_rows (pos 0) commands t → start ≡ [] → lines ≡ start ++ flat_map reply_line answers → out ≡ lines ++ rows_line after → script_output input ≡ Ok out
unfolding script_output output_of
script_ends input s commands t after answers start lines out read same table replied ran none written last =
    rw (read, last, written, none, ran, replied, same, table) refl
