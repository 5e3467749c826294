pub mod Begins
pub mod Heads
pub mod Bodies
pub mod Written
pub mod States
