pub mod Access
pub mod Maps
pub mod Machine
pub mod Demand
pub mod Via
