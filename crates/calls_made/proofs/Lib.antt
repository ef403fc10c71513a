pub mod WayLaws
