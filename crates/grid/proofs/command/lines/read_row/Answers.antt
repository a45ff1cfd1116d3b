use Rattle.std.proofs.Common.{Some, ap, ◌∙◌, refl, arith}
use Rattle.grid.proofs.Common.{line_is}
use Rattle.grid.proofs.Lemmas.{read_rows, read_some, read_none}
use Rattle.grid.proofs.command.lines.read_row.Goals as goal

pub returns-then-at-rows : goal.returns-then-at-rows
returns-then-at-rows g c =
    record {
      rows = λ d known. read_rows d c.args.at c.args.grid.now.rows;
      reply = λ same. read_none c.args.at c.args.grid.now.rows (omega (arith, c.if-at-rows.true, c.rows.ensures.rows));
      order = refl;
      err_grid = tt;
      err_memory = tt;
    }

pub returns : goal.returns
returns g c =
    record {
      rows = λ d known. read_rows d c.args.at c.args.grid.now.rows;
      reply = λ same.
          ap (λ l. line_is (Some l)) (c.in_ok-line.ensures.equal same ∙ c.iter_row.ensures.gives.0)
          ∙ read_some c.args.at c.args.grid.now.rows (omega (arith, c.if-at-rows.false, c.rows.ensures.rows));
      order = refl;
      err_grid = tt;
      err_memory = tt;
    }
