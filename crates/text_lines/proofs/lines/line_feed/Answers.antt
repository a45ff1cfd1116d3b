-- What the search of bytes found is the first place.
use Rattle.std.proofs.Common.{◌==◌}
use Rattle.text_lines.proofs.LineLemmas.{first_place}
use Rattle.text_lines.proofs.lines.line_feed.Goals as goal

pub returns-clause-first : goal.returns-clause-first
returns-clause-first c = first_place (λ byte. byte == 10) c.args.text.now c.memchr.result c.memchr.ensures
