-- What only joins code to the definitions: no clause that a caller sees reaches it. Within the crate two claims rest on
-- it: that the sets of a `Bits` are those of its squares (its invariant), and what its tables and sweeps hold.
pub mod Rays
pub mod Shapes
pub mod Occupancy
pub mod KindSets
pub mod BoardSets
pub mod Changes
pub mod Goes
pub mod Pins
