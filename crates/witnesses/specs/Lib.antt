pub mod Witness
pub mod WitnessCost
pub mod WitnessCalls
pub mod WitnessFrame
