pub mod SegmentLemmas
pub mod StraightLemmas
pub mod RayLemmas
pub mod AlongLemmas
pub mod RunLemmas
pub mod SightLemmas
pub mod FieldLemmas
