pub mod CellsIn
pub mod Each
pub mod KeyLemmas
pub mod DistinctLemmas
pub mod OriginLemmas
