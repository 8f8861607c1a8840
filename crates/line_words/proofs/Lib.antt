pub mod LongNames
