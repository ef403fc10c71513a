pub mod Parts
pub mod Start
