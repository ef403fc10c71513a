pub mod Places
pub mod Gathering
pub mod Roles
pub mod Rising
pub mod Words
pub mod RowMarks
pub mod RoleMarks
