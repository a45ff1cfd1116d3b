use Rattle.std.proofs.Common.{Some, ap, ◌∙◌, arith}
use Rattle.grid_deferred.proofs.Common.{shown, either_way}
use Rattle.grid_deferred.proofs.Lemmas.{read_some, read_none, read_takes}
use Rattle.grid_commands.specs.Reply.{line_is}
use Rattle.grid_deferred.proofs.deferred.Deferred.read_line.Goals as goal

pub returns-then-at-size-clause-reply : goal.returns-then-at-size-clause-reply
returns-then-at-size-clause-reply g c = λ _. read_none (shown c.args.self.now) c.args.axis c.args.at c.along-view.result.rows c.along-view.ensures (omega (arith, c.size.ensures.rows, c.if-at-size.true))

pub returns-in_err-alloc-clause-err_memory : goal.returns-in_err-alloc-clause-err_memory
returns-in_err-alloc-clause-err_memory g c = either_way _ (read_takes (shown c.args.self.now) c.args.axis c.args.at c.along-view.result.rows c.along-view.ensures (omega (arith, c.size.ensures.rows, c.if-at-size.false)))

pub returns-in_err-line-clause-err_memory : goal.returns-in_err-line-clause-err_memory
returns-in_err-line-clause-err_memory g c = either_way _ (read_takes (shown c.args.self.now) c.args.axis c.args.at c.along-view.result.rows c.along-view.ensures (omega (arith, c.size.ensures.rows, c.if-at-size.false)))

pub returns-clause-reply : goal.returns-clause-reply
returns-clause-reply g c = λ same. ap (λ l. line_is (Some l)) (c.in_ok-line.ensures.equal same ∙ c.iter_row.ensures.gives.0) ∙ read_some (shown c.args.self.now) c.args.axis c.args.at c.along-view.result.rows c.along-view.ensures (omega (arith, c.size.ensures.rows, c.if-at-size.false))
