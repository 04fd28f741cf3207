-- the two inverse transforms: definitions, how far their numbers go, laws that callers cite, and the source's own definitions
pub mod Transform
pub mod TransformBounds
pub mod Pieces
pub mod TransformLaws
pub mod TransformSource
-- several blocks at once
pub mod Lanes
pub mod LanesLaws
