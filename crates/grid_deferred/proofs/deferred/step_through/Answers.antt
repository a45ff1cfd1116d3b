use Rattle.grid_deferred.proofs.Lemmas.{carried_known, carried_reply_known, through-rows, through-reply, through-shift, through-memory}
use Rattle.grid_commands.specs.Command.{command_value}
use Rattle.grid_deferred.proofs.deferred.step_through.Goals as goal

pub returns-in-Ok-clause-stepped : goal.returns-in-Ok-clause-stepped
returns-in-Ok-clause-stepped g c = record {
  rows = λ d known.
      through-rows c.args.symmetry c.args.size.0 c.args.size.1 _ (command_value c.args.command) c.args.base.now.rows c.args.base.now.table c.requires.rows c.requires.cols c.carried-carried.ensures d _
      (c.in-Ok.ensures.stepped.rows d (carried_known _ _ d c.args.symmetry c.args.size.0 c.args.size.1 _ (command_value c.args.command) c.carried-carried.ensures known));
  reply = λ known.
      through-reply c.args.symmetry c.args.size.0 c.args.size.1 _ (command_value c.args.command) c.args.base.now.rows c.args.base.now.table c.requires.rows c.requires.cols c.carried-carried.ensures _ _ _
      c.axis-axis.ensures c.carry_reply.ensures
      (c.in-Ok.ensures.stepped.reply (carried_reply_known _ c.args.symmetry c.args.size.0 c.args.size.1 _ (command_value c.args.command) c.carried-carried.ensures known));
  reply_by_clones = λ same.
      through-reply c.args.symmetry c.args.size.0 c.args.size.1 _ (command_value c.args.command) c.args.base.now.rows c.args.base.now.table c.requires.rows c.requires.cols c.carried-carried.ensures _ _ _
      c.axis-axis.ensures c.carry_reply.ensures (c.in-Ok.ensures.stepped.reply_by_clones same);
  err_memory = tt;
}

pub returns-in-Ok-clause-shift : goal.returns-in-Ok-clause-shift
returns-in-Ok-clause-shift g c =
    through-shift c.args.symmetry c.args.size.0 c.args.size.1 _ (command_value c.args.command) c.args.base.now.rows c.args.base.now.table c.requires.rows c.requires.cols c.carried-carried.ensures _ _ _
    c.in-Ok.ensures.counted.shift

pub returns-in-Err-clause-stepped : goal.returns-in-Err-clause-stepped
returns-in-Err-clause-stepped g c = record {
  rows = tt;
  reply = tt;
  reply_by_clones = tt;
  err_memory =
      through-memory c.args.symmetry c.args.size.0 c.args.size.1 _ (command_value c.args.command) c.args.base.now.rows c.args.base.now.table c.requires.rows c.requires.cols c.carried-carried.ensures
      c.in-Err.ensures.stepped.err_memory;
}
