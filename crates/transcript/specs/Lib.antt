pub mod Facts
pub mod Visit
pub mod Reading
pub mod Computed
pub mod Pieces
pub mod Trace
pub mod Replay
