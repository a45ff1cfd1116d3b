pub mod FactorLemmas
