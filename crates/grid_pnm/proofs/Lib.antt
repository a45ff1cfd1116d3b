pub mod ScanLemmas
pub mod SampleLemmas
pub mod PictureLemmas
pub mod BackLemmas
pub mod LawLemmas
pub mod EnlargeLemmas
pub mod WriteLemmas
