-- The commands of lines, one line after another.
use Rattle.std.proofs.Common.{◌≡◌, ℕ, ◌+◌, ◌<◌, List, [], ◌∷◌, ◌++◌, ◌∙◌, length, map, refl, ap, sym, arith, append_assoc, append-nil, Some, None, Result, Ok, Err, ℤ}
use Rattle.grid_base.proofs.Common.{map-append}
use Rattle.grid_commands.specs.declared.command.Command.{Command}
use Rattle.grid_commands.specs.Command.{CommandValue, command_value}
use Rattle.grid_play.specs.declared.fault.ScriptFault.{ScriptFault}
use Rattle.grid_play.specs.declared.fault.ScriptFault.TheVariants.{BadCommand}
use Rattle.text_lines.specs.Lines.{first_line, later_lines, lines_of}
use Rattle.grid_play.specs.Script.{◌>>◌, line_commands, commands_from}
use Rattle.text_lines.proofs.LineLemmas.{lines-first, lines-none}

-- the commands so far, and those of the lines that are left
abbrev pub after_these : List (CommandValue ℤ) → Result (List (CommandValue ℤ)) ScriptFault → Result (List (CommandValue ℤ)) ScriptFault
after_these done left = left >> (λ rest. Ok (done ++ rest))

joined : (done new : List (CommandValue ℤ)) (left : Result (List (CommandValue ℤ)) ScriptFault) → after_these done (left >> (λ rest. Ok (new ++ rest))) ≡ after_these (done ++ new) left
joined done new (Ok rest) = ap Ok (sym (append_assoc done new rest))
joined done new (Err fault) = refl

pub lines_at : (script line rest : List ℕ) → 0 < length script → line ≡ first_line script → rest ≡ later_lines script → lines_of script ≡ line ∷ lines_of rest
lines_at [] line rest some first later = absurd (omega (arith, some))
lines_at (byte ∷ script) line rest some first later = lines-first byte script ∙ (ap (λ l. l ∷ lines_of (later_lines (byte ∷ script))) (sym first) ∙ ap (λ r. line ∷ lines_of r) (sym later))

pub good_line : (number : ℕ) (script line rest : List ℕ) (done new all : List (CommandValue ℤ)) → 0 < length script → line ≡ first_line script → rest ≡ later_lines script → line_commands line ≡ Some new → all ≡ done ++ new → after_these done (commands_from number (lines_of script)) ≡ after_these all (commands_from (number + 1) (lines_of rest))
good_line number script line rest done new all some first later good is =
    let lines = lines_at script line rest some first later in
    rw (lines, good, is) (joined done new (commands_from (number + 1) (lines_of rest)))

pub bad_line : (number : ℕ) (script line rest : List ℕ) (done : List (CommandValue ℤ)) → 0 < length script → line ≡ first_line script → rest ≡ later_lines script → line_commands line ≡ None → after_these done (commands_from number (lines_of script)) ≡ Err (BadCommand number)
bad_line number script line rest done some first later bad =
    let lines = lines_at script line rest some first later in
    rw (lines, bad) refl

pub no_line : (number : ℕ) (script : List ℕ) (done : List (CommandValue ℤ)) → script ≡ [] → after_these done (commands_from number (lines_of script)) ≡ Ok done
no_line number script done none = rw (none, lines-none) (ap Ok (append-nil done))

pub pushed_value : {A : Type 0} (old new : List (Command ℤ A)) (x : Command ℤ A) → new ≡ old ++ x ∷ [] → map command_value new ≡ map command_value old ++ command_value x ∷ []
pushed_value old new x e = ap (map command_value) e ∙ map-append command_value old (x ∷ [])
