pub mod Search
pub mod View
