pub mod Sized
pub mod Corner
pub mod Leading
pub mod PivotScan
pub mod Beside
pub mod Columns
pub mod Padded
pub mod Made
