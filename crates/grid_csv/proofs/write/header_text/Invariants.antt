-- The names so far.
use Rattle.std.proofs.Common.{◌≡◌, [], map, take, string_bytes}
use Rattle.grid_csv.proofs.Common.{fields_of, partial_of}
use Rattle.grid_csv.proofs.write.header_text.Given as goal

abbrev pub invariant-loop-name : goal.invariant-loop-name
invariant-loop-name l = record {
  fields : fields_of l.fields ≡ map string_bytes (take l.name-index l.header);
  partial : partial_of l.fields ≡ [];
}
