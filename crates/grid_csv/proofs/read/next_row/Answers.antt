-- The record that was found is the first of those that were left.
use Rattle.std.proofs.Common.{◌≡◌, [], Bool, true, false, Some, List, ℕ, MatchBool, Bor}
use Rattle.grid_csv.proofs.Common.{ReadRecord, is_flexible, took_first, HasLeft, Took}
use Rattle.grid_csv.proofs.Lemmas.{found_one, found_none}
use Rattle.csv.specs.declared.reader.Reader.{Reader}
use Rattle.grid_csv.proofs.read.next_row.Goals as goal

by_found : (old new : Reader (Bor (List ℕ))) (fields : List (List ℕ)) (left : List (List (List ℕ))) (found : Bool) → HasLeft old left → is_flexible new ≡ is_flexible old → ReadRecord (λ s. Some s.now) old new found fields → took_first new ≡ true → MatchBool found (Took left fields new) (left ≡ [])
by_found old new fields left true has flexible r first = found_one old new fields left has flexible r first
by_found old new fields left false has flexible r first = found_none old new fields left has flexible r

pub returns-clause-ok : goal.returns-clause-ok
returns-clause-ok c = λ left has.
    let e = c.in-Ok.ensures in
    by_found _ _ _ left _ has e.flexible (e.reads has.trims has.ready) (e.ready has.trims)
