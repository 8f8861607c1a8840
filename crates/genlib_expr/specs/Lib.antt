pub mod Formula
pub mod Grammar
pub mod Machine
pub mod Text
pub mod Texts
pub mod Values
pub mod Functions
pub mod Tables
