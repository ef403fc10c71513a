pub mod Same
pub mod Named
