-- The words of contracts, passed on from one place. Declares nothing.
pub use Rattle.grid_base.specs.Strides.{LinesInOrder}
pub use Rattle.grid_commands.specs.Command.{command_value}
pub use Rattle.grid_deferred.specs.Carried.{carried}
pub use Rattle.grid_deferred.specs.Carry.{Carries, is_apply, shift_through_at}
pub use Rattle.grid_deferred.specs.Deferred.{pending_after, along}
pub use Rattle.grid_deferred.specs.Run.{RanDeferred, DeferredRunGives}
pub use Rattle.grid_deferred.specs.Through.{turned_reply, reverses_cells, mirrored_line, mirrored_insertion, mirrored_start, transposed_command, flipped_command}
