pub mod SplitLemmas
pub mod LineLemmas
pub mod WordLemmas
pub mod NumberLemmas
