pub mod RoundTrip
pub mod Printing
