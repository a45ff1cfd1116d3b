-- Where clones equal their source, every reply is known.
use Rattle.std.proofs.Common.{IfOk, Result}
use Rattle.grid.proofs.Common.{IfOk-weaker, ClonesAreEqual, Edit, read, CommandValue, get, lines, EditReplyIsKnown, ReplyIsKnown}

module _ {T : Type 0} (C : T → T → Type 0) (same : ClonesAreEqual C) where
  edit_reply_known : (e : Edit T) → EditReplyIsKnown C e
  edit_reply_known (read i) = same
  edit_reply_known e = tt

  pub reply_known : (x : CommandValue T) → ReplyIsKnown C x
  reply_known (get r c) = same
  reply_known (lines a e) = edit_reply_known e
  reply_known x = tt

-- what is said of a known reply holds where clones equal their source
pub by_clones : {T R E : Type 0} (C : T → T → Type 0) (x : CommandValue T) (r : Result R E) (P : R → Type 0) → IfOk r (λ reply. ReplyIsKnown C x → P reply) → IfOk r (λ reply. ClonesAreEqual C → P reply)
by_clones C x r P h = IfOk-weaker r _ _ (λ reply known same. known (reply_known C same x)) h
