mod MirrorLemmas
mod EffectLemmas
mod ThroughLemmas
mod RefusalLemmas
mod EditThroughLemmas
mod CellThroughLemmas
pub mod StepThroughLemmas
mod CarryLemmas
mod LineLemmas
mod PendingLemmas
mod AllowanceLemmas
pub mod RunLemmas
mod ReadLemmas
pub mod Common
pub mod Lemmas
