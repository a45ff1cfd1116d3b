pub mod AnswerLemmas
pub mod JoinLemmas
pub mod PartLemmas
pub mod FoldLemmas
pub mod FindLemmas
