pub mod Scanned
pub mod Begun
pub mod Ended
pub mod Benched
