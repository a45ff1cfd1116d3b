-- A script by its first line and the commands of the others.
use Rattle.std.proofs.Common.{◌≡◌, ◌⊎◌, inl, inr, ℕ, ◌<◌, List, [], ◌∙◌, length, refl, ℤ, Ok, Err}
use Rattle.grid_commands.specs.Command.{CommandValue}
use Rattle.grid_play.specs.declared.fault.ScriptFault.{ScriptFault}
use Rattle.grid_play.specs.declared.fault.ScriptFault.TheVariants.{BadGrid, Memory}
use Rattle.text_lines.specs.Lines.{first_line, later_lines, lines_of}
use Rattle.grid_play.specs.Script.{◌>>◌, or_fault, Layout, grid_of, commands_from, script_of}
use Rattle.text_lines.proofs.LineLemmas.{lines-none}
use Rattle.grid_play.proofs.CommandsLemmas.{lines_at}

pub no_lines : (input : List ℕ) → input ≡ [] → script_of input ≡ Err BadGrid
unfolding script_of
no_lines input none = rw (none, lines-none) refl

module _ (input first rest : List ℕ) (some : 0 < length input) (is_first : first ≡ first_line input) (is_rest : rest ≡ later_lines input) where
  due : script_of input ≡ (or_fault BadGrid (grid_of first) >> (λ grid. commands_from 2 (lines_of rest) >> (λ commands. Ok (record { grid = grid; commands = commands }))))
  unfolding script_of
  due = let lines = lines_at input first rest some is_first is_rest in rw lines refl

  pub grid_fails : (fault : ScriptFault) → (fault ≡ Memory) ⊎ (or_fault BadGrid (grid_of first) ≡ Err fault) → (fault ≡ Memory) ⊎ (script_of input ≡ Err fault)
  grid_fails fault (inl memory) = inl memory
  grid_fails fault (inr bad) = inr (due ∙ rw bad refl)

  pub commands_fail : (grid : Layout) (fault : ScriptFault) → or_fault BadGrid (grid_of first) ≡ Ok grid → (fault ≡ Memory) ⊎ (commands_from 2 (lines_of rest) ≡ Err fault) → (fault ≡ Memory) ⊎ (script_of input ≡ Err fault)
  commands_fail grid fault good (inl memory) = inl memory
  commands_fail grid fault good (inr bad) = inr (due ∙ rw (good, bad) refl)

  pub both_read : (grid : Layout) (commands : List (CommandValue ℤ)) → or_fault BadGrid (grid_of first) ≡ Ok grid → commands_from 2 (lines_of rest) ≡ Ok commands → script_of input ≡ Ok (record { grid = grid; commands = commands })
  both_read grid commands good read = due ∙ rw (good, read) refl
