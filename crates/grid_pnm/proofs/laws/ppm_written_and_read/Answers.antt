-- What is read of a picture that was written is the board of its samples.
use Rattle.std.proofs.Common.{◌≡◌, ◌<◌, ◌^◌, ◌∙◌, Ok, ap, length, rules}
use Rattle.grid_pnm.specs.Reading.{ppm_of}
use Rattle.grid_pnm.specs.Writing.{ppm_bytes, table_map}
use Rattle.grid_pnm.proofs.PictureLemmas.{back}
use Rattle.grid_pnm.proofs.LawLemmas.{ppm_back}
use Rattle.grid_pnm.proofs.laws.ppm_written_and_read.Goals as goal

pub returns-clause-rows : goal.returns-clause-rows
returns-clause-rows g c = λ h writes all.
    let bytes : c.as_slice.result.now ≡ ppm_bytes h (g.V.AsView.rows c.args.board.now) = c.as_slice.ensures.value ∙ c.in_ok-bytes.ensures.picture h writes in
    let small : length c.as_slice.result.now < 2 ^ 64 = search rules in
    let due : ppm_of c.as_slice.result.now ≡ Ok (table_map h (g.V.AsView.rows c.args.board.now)) = ap ppm_of bytes ∙ ppm_back (g.V.AsView.rows c.args.board.now) (g.met.V.AsView.table c.args.board.now) h all (rw bytes at small) in
    back _ _ _ _ due _ c.from_ppm.ensures
