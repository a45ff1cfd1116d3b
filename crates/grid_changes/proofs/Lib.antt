pub mod RollLemmas
pub mod ChangeLemmas
pub mod StepLemmas
pub mod AskedLemmas
pub mod DifferenceLemmas
pub mod WriteLemmas
pub mod ChangedCellLemmas
