pub mod Commitments
pub mod Keys
pub mod Order
pub mod Words
pub mod ByteOrder
pub mod Made
