mod GrowLemmas
pub mod SpendLemmas
pub mod PlainLemmas
