-- What is read of a picture that was written is the board of its samples.
use Rattle.std.proofs.Common.{◌≡◌, ◌<◌, ◌^◌, ◌∙◌, Ok, ap, length, rules}
use Rattle.grid_pnm.specs.Reading.{pgm_of}
use Rattle.grid_pnm.specs.Writing.{pgm_bytes, table_map}
use Rattle.grid_pnm.proofs.PictureLemmas.{back}
use Rattle.grid_pnm.proofs.LawLemmas.{pgm_back}
use Rattle.grid_pnm.proofs.laws.pgm_written_and_read.Goals as goal

pub returns-clause-rows : goal.returns-clause-rows
returns-clause-rows g c = λ h writes.
    let bytes : c.as_slice.result.now ≡ pgm_bytes h (g.V.AsView.rows c.args.board.now) = c.as_slice.ensures.value ∙ c.in_ok-bytes.ensures.picture h writes in
    let small : length c.as_slice.result.now < 2 ^ 64 = search rules in
    let due : pgm_of c.as_slice.result.now ≡ Ok (table_map h (g.V.AsView.rows c.args.board.now)) = ap pgm_of bytes ∙ pgm_back (g.V.AsView.rows c.args.board.now) (g.met.V.AsView.table c.args.board.now) h (rw bytes at small) in
    back _ _ _ _ due _ c.from_pgm.ensures
