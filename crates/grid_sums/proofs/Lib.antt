pub mod SumLemmas
pub mod BuildLemmas
pub mod MeanLemmas
