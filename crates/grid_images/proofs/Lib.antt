pub mod OrderLemmas
pub mod NumberLemmas
pub mod ImageLemmas
pub mod LeastLemmas
pub mod CountLemmas
pub mod OrbitLemmas
