-- The lemmas of this crate, passed on to the proofs of its functions. Declares nothing.
pub use Rattle.grid_laws.proofs.CountLemmas.{grew_deferred, grew_by_price, grew_by_shift, on_ok3}
pub use Rattle.grid_laws.proofs.EditLemmas.{shift_is_least}
pub use Rattle.grid_laws.proofs.ImageLemmas.{price_is_least}
