-- What the program says of a script that is at fault.
use Rattle.std.specs.Prelude.{ℕ, List, ◌++◌, codes, decimal}
use Rattle.grid_play.specs.declared.fault.ScriptFault.{ScriptFault}
use Rattle.grid_play.specs.declared.fault.ScriptFault.TheVariants.{BadGrid, BadCommand, Memory}

-- the exit status: 2 where the script is at fault, 3 where allocation failed
abbrev pub fault_status : ScriptFault → ℕ
fault_status BadGrid = 2
fault_status (BadCommand line) = 2
fault_status Memory = 3

-- the text on standard error
abbrev pub fault_text : ScriptFault → List ℕ
fault_text BadGrid = codes "line 1: bad grid"
fault_text (BadCommand line) = codes "line " ++ decimal line ++ codes ": bad command"
fault_text Memory = codes "out of memory"
