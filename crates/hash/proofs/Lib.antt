pub mod Places
pub mod FromFn
pub mod Folds
