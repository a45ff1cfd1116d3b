-- The lemmas of this crate, passed on to the proofs of its functions. Declares nothing.
pub use Rattle.grid_deferred.proofs.CellThroughLemmas.{map-reversed}
pub use Rattle.grid_deferred.proofs.LineLemmas.{between, each_more}
pub use Rattle.grid_deferred.proofs.PendingLemmas.{in_range_some, always_ok, pending-then, shown-then, reply-then, pending-still, applies-none, none_applied, get-rows, carried_known, carried_reply_known, through-rows, through-reply, through-shift, through-memory}
pub use Rattle.grid_deferred.proofs.ReadLemmas.{read_some, read_none, read_takes}
pub use Rattle.grid_deferred.proofs.RunLemmas.{agree_rows, agree_order, agree_replies, on_both_ok, if_both_ok, going_none, going_more, still_going, settled, ran_none, Going}
