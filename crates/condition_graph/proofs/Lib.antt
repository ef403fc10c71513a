pub mod Readings
pub mod Places
pub mod Trees
pub mod BitLemmas
pub mod Findings
pub mod Climbs
pub mod Ways
