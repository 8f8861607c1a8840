pub mod Beside
pub mod PartLast
pub mod PartLines
pub mod PartWords
pub mod Ports
pub mod WhatIsRead
