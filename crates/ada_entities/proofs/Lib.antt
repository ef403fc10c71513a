mod TreeSeen
pub mod TreeUnfolding
pub mod TreeTableLaws
pub mod SeenLaws
pub mod Agreement
pub mod TableLaws
pub mod LookupLaws
pub mod Copies
pub mod RoutineLaws
pub mod RegionLaws
pub mod NestingLaws
pub mod StandardLaws
pub mod UnitLaws
