pub mod Bits
pub mod Seeing
pub mod Ends
pub mod Starts
pub mod Written
pub mod Passing
pub mod Histories
