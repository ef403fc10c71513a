pub mod Fits
pub mod Instances
pub mod SizeLaws
pub mod Totals
pub mod Rows
pub mod TypeForms
