pub mod Points
pub mod Minimum
pub mod Refusals
pub mod Primes
pub mod Trimming
