pub mod Tables
pub mod Boards
pub mod Lining
pub mod Told
pub mod Unique
pub mod Bytes
pub mod Made
pub mod RoundTrip
