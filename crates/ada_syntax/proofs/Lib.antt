pub mod NodeLaws
pub mod Places
pub mod SizeLaws
pub mod StatementSizeLaws
