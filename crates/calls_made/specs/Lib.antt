pub mod Way
