-- What may be read is what the closure says of characters.
use Rattle.std.proofs.Common.{chars}
use Rattle.grid_text.proofs.Common.{lines_of, AnswersChar, bad_char}
use Rattle.grid_text.proofs.Lemmas.{is_read, fewer_read}
use Rattle.grid_text.proofs.read.from_text.Goals as goal

pub returns-clause-reads : goal.returns-clause-reads
returns-clause-reads g c = λ h by. is_read chars bad_char (AnswersChar (goal.F-post g) c.args.read) h (λ x cell said. by x cell said.0 said.1) (lines_of c.args.text.now) _ c.read_lines.ensures

pub returns-clause-answers : goal.returns-clause-answers
returns-clause-answers g c = fewer_read chars bad_char (AnswersChar (goal.F-post g) c.args.read) _ (lines_of c.args.text.now) _ c.read_lines.ensures (λ x cell said. said.1)
