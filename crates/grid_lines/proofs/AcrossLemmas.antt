-- The transposed table, before a row edit.
use Rattle.std.proofs.Common.{◌≡◌, List, ◌∙◌}
use Rattle.grid_base.proofs.Common.{transposed, act}
use Rattle.grid_base.specs.declared.words.Symmetry.TheVariants.{Transpose}
use Rattle.grid_base.proofs.ActLemmas.{act_is_transposed}

pub across : {T : Type 0} (t mid : List (List T)) → mid ≡ act Transpose t → mid ≡ transposed t
across t mid e = e ∙ act_is_transposed t
