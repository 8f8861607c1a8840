pub mod Filling
pub mod Fitting
pub mod Lawful
pub mod Numbers
pub mod ScriptWords
pub mod Verbs
pub mod Worked
