pub mod InPlace
pub mod Lending
pub mod Shown
