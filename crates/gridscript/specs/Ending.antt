-- How the program ends where it writes no output.
use Rattle.std.specs.Prelude.{ℕ, List, codes}
use Rattle.gridscript.specs.declared.ending.Ending.{Ending}
use Rattle.gridscript.specs.declared.ending.Ending.TheVariants.{Usage, Script, Transfer}
use Rattle.grid_play.specs.ScriptFault.{fault_status, fault_text}

-- the exit status: 2 for other arguments, that of the fault, and 4 where reading or writing failed
abbrev pub ending_status : Ending → ℕ
ending_status Usage = 2
ending_status (Script fault) = fault_status fault
ending_status Transfer = 4

-- the text on standard error
abbrev pub ending_text : Ending → List ℕ
ending_text Usage = codes "usage: gridscript [deferred]"
ending_text (Script fault) = fault_text fault
ending_text Transfer = codes "input or output failed"
